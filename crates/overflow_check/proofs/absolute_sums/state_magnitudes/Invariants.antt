use Rattle.std.proofs.Common.{◌≡◌, ◌<◌, ◌*◌, ◌^◌, ◌-◌, ℕ, max, length, get_or, pos, unsigned_abs}
use Rattle.overflow_check.proofs.absolute_sums.state_magnitudes.Given as goal

abbrev pub invariant-loop-i : goal.invariant-loop-i
invariant-loop-i l = record {
  room : length l.magnitudes ≡ 6;
  magnitudes : (k : ℕ) → k < l.i → get_or l.magnitudes k 0 ≡ max (unsigned_abs (get_or l.c.lo.items k (pos 0))) (unsigned_abs (get_or l.c.hi.items k (pos 0))) * 2 ^ (l.c.f - l.c.g);
}
