use Rattle.std.proofs.Common.{◌≡◌, take, pos}
use Rattle.mat_int.specs.Row.{abs_sum}
use Rattle.mat_int.proofs.row.abs_sum.Given as goal

abbrev pub invariant-loop-x : goal.invariant-loop-x
invariant-loop-x l = l.sum ≡ pos (abs_sum (take l.x-index l.xs))
