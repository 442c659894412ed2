use Rattle.std.proofs.Common.{◌≡◌}
use Rattle.qp_model.specs.machine.Controller.{numbers}
use Rattle.c_program.specs.Of.{first_opposed}
use Rattle.c_writer.proofs.opposite.partner_of.Given as goal

abbrev pub invariant-loop-n : goal.invariant-loop-n
invariant-loop-n l = l.first ≡ first_opposed (numbers l.c) l.i l.n
