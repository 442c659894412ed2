use Rattle.std.proofs.Common.{◌<◌, ℕ, All}
use Rattle.mat_int.specs.Matrix.{row_of}
use Rattle.qp_model.specs.problem.Range.{IsNumerator}
use Rattle.qp_model.proofs.range.has_numerators.Given as goal

abbrev pub invariant-loop-i : goal.invariant-loop-i
invariant-loop-i l = (r : ℕ) → r < l.i → All IsNumerator (row_of l.m r)
