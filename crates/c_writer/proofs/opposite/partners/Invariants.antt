use Rattle.std.proofs.Common.{◌≡◌, take}
use Rattle.qp_model.specs.machine.Controller.{numbers}
use Rattle.c_writer.specs.Terms.{partners_of}
use Rattle.c_writer.proofs.opposite.partners.Given as goal

abbrev pub invariant-loop-i : goal.invariant-loop-i
invariant-loop-i l = l.partners.items ≡ take l.i (partners_of (numbers l.c))
