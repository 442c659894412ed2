use Rattle.std.proofs.Common.{◌≡◌, take}
use Rattle.qp_model.specs.machine.Controller.{numbers}
use Rattle.qp_model.specs.machine.AbsoluteSums.{plan_magnitudes}
use Rattle.c_writer.proofs.tops.plan_tops.Given as goal

abbrev pub invariant-loop-j : goal.invariant-loop-j
invariant-loop-j l = l.tops.items ≡ take l.j (plan_magnitudes (numbers l.c))
