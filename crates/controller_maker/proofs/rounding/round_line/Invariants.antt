use Rattle.std.proofs.Common.{◌≡◌, ℕ, ◌<◌, ◌^◌, pos, ◌*ℤ◌, unsigned_abs}
use Rattle.integer_algebra.specs.Sums.{at}
use Rattle.integer_algebra.specs.Division.{round_of}
use Rattle.controller_maker.proofs.rounding.round_line.Given as goal

abbrev pub invariant-loop-j : goal.invariant-loop-j
invariant-loop-j l = (k : ℕ) → k < l.j → at l.out k ≡ round_of (pos (2 ^ l.f) *ℤ at l.xs k) (unsigned_abs l.den)
