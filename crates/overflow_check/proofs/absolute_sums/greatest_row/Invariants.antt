use Rattle.std.proofs.Common.{◌≡◌, ◌≤◌, ◌^◌, length, map}
use Rattle.std.specs.List.{range_with_len}
use Rattle.qp_model.specs.machine.Controller.{numbers}
use Rattle.qp_model.specs.machine.AbsoluteSums.{greatest_of, row_absolute_sum}
use Rattle.overflow_check.proofs.absolute_sums.greatest_row.Given as goal

abbrev pub invariant-loop-i : goal.invariant-loop-i
invariant-loop-i l = record {
  end : l.i-end ≡ length l.c.bound.items;
  greatest : l.greatest ≡ greatest_of (map (row_absolute_sum (numbers l.c)) (range_with_len 0 l.i));
  room : l.greatest ≤ 2 ^ 126;
}
