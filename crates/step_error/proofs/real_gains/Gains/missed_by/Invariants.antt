use Rattle.std.proofs.Common.{◌≡◌}
use Rattle.condensed_form.specs.Form.{held}
use Rattle.step_error.specs.Gains.{gain_at, missed_by}
use Rattle.step_error.proofs.real_gains.Gains.missed_by.Given as goal

abbrev pub invariant-loop-i : goal.invariant-loop-i
invariant-loop-i l = l.sum ≡ missed_by (held l.self.c.now) l.self.f (gain_at l.self.p_mat.now l.self.t.now l.self.w_mat.now) l.first l.i l.j
