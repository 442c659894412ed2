use Rattle.std.proofs.Common.{◌≡◌}
use Rattle.qp_model.specs.machine.Controller.{numbers}
use Rattle.c_program.specs.Of.{any_below, is_row_needed}
use Rattle.c_writer.proofs.needed.is_any_row_needed.Given as goal

abbrev pub invariant-loop-i : goal.invariant-loop-i
invariant-loop-i l = l.found ≡ any_below (is_row_needed (numbers l.from.c.now)) l.i
