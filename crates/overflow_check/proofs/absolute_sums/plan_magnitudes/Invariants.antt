use Rattle.std.proofs.Common.{◌≡◌, ◌+◌, ◌<◌, ◌^◌, ℕ, length, map, get_or}
use Rattle.std.specs.List.{range_with_len}
use Rattle.integer_algebra.specs.Division.{ceil_div}
use Rattle.qp_model.specs.machine.Controller.{numbers}
use Rattle.qp_model.specs.machine.AbsoluteSums.{greatest_of, entry_absolute_sum}
use Rattle.overflow_check.proofs.absolute_sums.plan_magnitudes.Given as goal

abbrev pub invariant-loop-j : goal.invariant-loop-j
invariant-loop-j l = record {
  end : l.j-end ≡ length l.c.t.items;
  room : length l.magnitudes ≡ 90;
  greatest : l.greatest ≡ greatest_of (map (entry_absolute_sum (numbers l.c)) (range_with_len 0 l.j));
  magnitudes : (k : ℕ) → k < l.j → get_or l.magnitudes k 0 ≡ ceil_div (entry_absolute_sum (numbers l.c) k) (2 ^ (l.c.f + l.c.s));
}
