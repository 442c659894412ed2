use Rattle.qp_model.specs.machine.Controller.{numbers}
use Rattle.c_program.specs.Of.{is_row_needed}
use Rattle.c_writer.proofs.Lists.{any_none, any_more}
use Rattle.c_writer.proofs.needed.is_any_row_needed.Goals as goal

pub loop-i-init : goal.loop-i-init
loop-i-init c = any_none (is_row_needed (numbers c.args.from.now.c.now))

pub loop-i-preserved : goal.loop-i-preserved
loop-i-preserved c =
    any_more (is_row_needed (numbers c.args.from.now.c.now)) c.loop-i.i c.loop-i.found c.is_row_needed_at-next.result c.either-found.result c.loop-i.invariant c.is_row_needed_at-next.ensures c.either-found.ensures
