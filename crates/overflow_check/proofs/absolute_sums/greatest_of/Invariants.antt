use Rattle.std.proofs.Common.{◌≡◌, take}
use Rattle.qp_model.specs.machine.AbsoluteSums.{greatest_of}
use Rattle.overflow_check.proofs.absolute_sums.greatest_of.Given as goal

abbrev pub invariant-loop-x : goal.invariant-loop-x
invariant-loop-x l = l.greatest ≡ greatest_of (take l.x-index l.numbers)
