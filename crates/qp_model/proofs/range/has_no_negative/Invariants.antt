use Rattle.std.proofs.Common.{◌<◌, ℕ, ◌≤ℤ◌, pos}
use Rattle.mat_int.specs.Matrix.{entry_of}
use Rattle.qp_model.proofs.range.has_no_negative.Given as goal

abbrev pub invariant-loop-i : goal.invariant-loop-i
invariant-loop-i l = (r : ℕ) → r < l.i → pos 0 ≤ℤ entry_of l.m r l.j
