use Rattle.qp_model.specs.machine.Controller.{numbers}
use Rattle.c_writer.specs.Terms.{reaches_row}
use Rattle.c_writer.proofs.Lists.{any_none, any_more}
use Rattle.c_writer.proofs.needed.is_in_needed_rows.Goals as goal

pub loop-i-init : goal.loop-i-init
loop-i-init c = any_none (reaches_row (numbers c.args.c.now) c.args.a.now c.args.k c.args.top)

pub loop-i-preserved : goal.loop-i-preserved
loop-i-preserved c =
    any_more (reaches_row (numbers c.args.c.now) c.args.a.now c.args.k c.args.top) c.loop-i.i c.loop-i.found c.is_in_needed_row-next.result c.either-found.result c.loop-i.invariant
    c.is_in_needed_row-next.ensures c.either-found.ensures
