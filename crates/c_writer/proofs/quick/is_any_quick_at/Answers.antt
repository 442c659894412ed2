use Rattle.std.proofs.Common.{◌&&◌, arith}
use Rattle.qp_model.specs.machine.Controller.{numbers}
use Rattle.c_program.specs.Of.{is_row_needed, is_twice_quick}
use Rattle.c_writer.proofs.Lists.{any_none, any_more}
use Rattle.c_writer.proofs.QuickTexts.{any_quick}
use Rattle.c_writer.proofs.quick.is_any_quick_at.Goals as goal

pub loop-i-init : goal.loop-i-init
loop-i-init c = let n = numbers c.args.from.now.c.now in any_none (λ i. is_row_needed n i && is_twice_quick n i)

pub loop-i-preserved : goal.loop-i-preserved
loop-i-preserved c =
    let n = numbers c.args.from.now.c.now in
    any_more (λ i. is_row_needed n i && is_twice_quick n i) c.loop-i.i c.loop-i.found c.is_needed_quick_at-next.result c.either-found.result c.loop-i.invariant c.is_needed_quick_at-next.ensures c.either-found.ensures

pub returns : goal.returns
returns c =
    any_quick (numbers c.args.from.now.c.now) c.loop-i.i c.loop-i.found c.loop-i.invariant (omega (arith, c.loop-i-test.false, c.loop-i.auto.i-end, c.len-i-end.ensures))
