use Rattle.std.proofs.Common.{ℕ, ◌<◌, length}
use Rattle.hessian_check.specs.Curvature.{HasPassingRoot}
use Rattle.hessian_check.specs.MatrixRoom.{matrix_at}
use Rattle.hessian_check.proofs.choice.first_passing.Given as goal

abbrev pub invariant-loop-s : goal.invariant-loop-s
invariant-loop-s l = (k : ℕ) → k < l.s → ¬ HasPassingRoot (length l.matrices.cost.rows) (matrix_at l.matrices k)
