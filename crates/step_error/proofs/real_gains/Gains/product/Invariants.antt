use Rattle.std.proofs.Common.{◌≡◌, ◌*ℤ◌}
use Rattle.integer_algebra.specs.Sums.{total}
use Rattle.mat_int.specs.Matrix.{entry_of}
use Rattle.step_error.specs.Gains.{gain_at}
use Rattle.step_error.proofs.real_gains.Gains.product.Given as goal

abbrev pub invariant-loop-l : goal.invariant-loop-l
invariant-loop-l l = l.sum ≡ total l.l (λ k. entry_of l.self.c.now.hess l.j k *ℤ gain_at l.self.p_mat.now l.self.t.now l.self.w_mat.now l.i k)
