use Rattle.std.proofs.Common.{◌^◌, pos, ◌*ℤ◌, unsigned_abs}
use Rattle.integer_algebra.specs.Division.{round_of}
use Rattle.mat_int.specs.Matrix.{entry_of, HasEntries}
use Rattle.controller_maker.proofs.rounding.rounded_matrix.Given as goal

abbrev pub invariant-loop-i : goal.invariant-loop-i
invariant-loop-i l = HasEntries l.i l.mat.cols (λ i j. round_of (pos (2 ^ l.f) *ℤ entry_of l.mat i j) (unsigned_abs l.den)) l.out
