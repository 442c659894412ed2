use Rattle.std.proofs.Common.{length}
use Rattle.integer_algebra.specs.Sizes.{size}
use Rattle.mat_int.specs.Matrix.{entry_of}
use Rattle.hessian_check.specs.Held.{moved_diagonal}
use Rattle.hessian_check.specs.Filling.{HasFirstMoved}
use Rattle.hessian_check.proofs.held.move_diagonal.Given as goal

abbrev pub invariant-loop-i : goal.invariant-loop-i
invariant-loop-i l =
    let n = length l.fn.mat.rows in
    HasFirstMoved n (moved_diagonal l.up (entry_of l.fn.mat) (λ i. size n (entry_of l.radii i))) (entry_of l.fn.mat) l.mat l.i
