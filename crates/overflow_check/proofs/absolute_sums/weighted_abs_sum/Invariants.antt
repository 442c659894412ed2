use Rattle.std.proofs.Common.{◌≡◌, ◌<◌, ◌^◌, take}
use Rattle.qp_model.specs.machine.AbsoluteSums.{weighted_abs_sum}
use Rattle.overflow_check.proofs.absolute_sums.weighted_abs_sum.Given as goal

abbrev pub invariant-loop-i : goal.invariant-loop-i
invariant-loop-i l = record {
  sum : l.sum ≡ weighted_abs_sum (take l.i l.row) (take l.i l.magnitudes);
  fits : l.sum < 2 ^ 128;
}
