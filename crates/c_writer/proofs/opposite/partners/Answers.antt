use Rattle.std.proofs.Common.{◌∙◌, sym, take_all, arith}
use Rattle.qp_model.specs.machine.Controller.{numbers}
use Rattle.c_writer.specs.Terms.{partners_of}
use Rattle.c_writer.proofs.Lists.{one_more, length-partners, partner_at}
use Rattle.c_writer.proofs.opposite.partners.Goals as goal

pub loop-i-init : goal.loop-i-init
loop-i-init c = c.new-partners.ensures.items

pub loop-i-preserved : goal.loop-i-preserved
loop-i-preserved c =
    let n = numbers c.args.c.now in
    one_more (partners_of n) c.loop-i.i 0 c.partner_of.result c.loop-i.partners.items c.push.new.self.items (omega (arith, length-partners n, c.loop-i-test.true, c.len-i-end.ensures))
    c.loop-i.invariant (c.partner_of.ensures ∙ sym (partner_at n c.loop-i.i 0 (omega (arith, c.loop-i-test.true, c.len-i-end.ensures)))) c.in_ok-push.ensures.items

pub returns : goal.returns
returns c =
    let n = numbers c.args.c.now in
    c.loop-i.invariant ∙ take_all c.loop-i.i (partners_of n) (omega (arith, length-partners n, c.loop-i-test.false, c.len-i-end.ensures))
