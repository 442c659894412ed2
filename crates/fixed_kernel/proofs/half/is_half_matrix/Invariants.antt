use Rattle.std.proofs.Common.{All, take}
use Rattle.fixed_kernel.specs.WordForm.{IsHalf}
use Rattle.fixed_kernel.proofs.half.is_half_matrix.Given as goal

abbrev pub invariant-loop-i : goal.invariant-loop-i
invariant-loop-i l = All (All IsHalf) (take l.i l.a.rows)
