use Rattle.std.proofs.Common.{◌≡◌}
use Rattle.qp_model.specs.machine.Controller.{numbers}
use Rattle.c_program.specs.Of.{any_below}
use Rattle.c_writer.specs.Terms.{reaches_row}
use Rattle.c_writer.proofs.needed.is_in_needed_rows.Given as goal

abbrev pub invariant-loop-i : goal.invariant-loop-i
invariant-loop-i l = l.found ≡ any_below (reaches_row (numbers l.c) l.a l.k l.top) l.i
