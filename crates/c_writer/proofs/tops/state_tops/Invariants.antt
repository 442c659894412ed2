use Rattle.std.proofs.Common.{◌≡◌, take}
use Rattle.qp_model.specs.machine.Controller.{numbers}
use Rattle.qp_model.specs.machine.AbsoluteSums.{state_magnitudes}
use Rattle.c_writer.proofs.tops.state_tops.Given as goal

abbrev pub invariant-loop-k : goal.invariant-loop-k
invariant-loop-k l = l.tops.items ≡ take l.k (state_magnitudes (numbers l.c))
