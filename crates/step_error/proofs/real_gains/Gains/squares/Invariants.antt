use Rattle.std.proofs.Common.{◌≡◌, ◌+◌, ◌^◌}
use Rattle.integer_algebra.specs.Sizes.{amount}
use Rattle.condensed_form.specs.Form.{held}
use Rattle.step_error.specs.Gains.{gain_at, missed_gradient, mean_of}
use Rattle.step_error.proofs.real_gains.Gains.squares.Given as goal

abbrev pub invariant-loop-j : goal.invariant-loop-j
invariant-loop-j l = l.squares ≡ amount l.j (λ j. (
    missed_gradient (held l.self.c.now) l.self.f (gain_at l.self.p_mat.now l.self.t.now l.self.w_mat.now) l.self.state l.self.top j
    + mean_of (held l.self.c.now) l.self.means j) ^ 2)
