use Rattle.std.proofs.Common.{◌≡◌, ◌&&◌}
use Rattle.qp_model.specs.machine.Controller.{numbers}
use Rattle.c_program.specs.Of.{any_below, is_row_needed, is_twice_quick}
use Rattle.c_writer.proofs.quick.is_any_quick_at.Given as goal

abbrev pub invariant-loop-i : goal.invariant-loop-i
invariant-loop-i l = l.found ≡ any_below (λ i. is_row_needed (numbers l.from.c.now) i && is_twice_quick (numbers l.from.c.now) i) l.i
