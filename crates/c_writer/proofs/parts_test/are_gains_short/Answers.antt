use Rattle.std.proofs.Common.{length, arith}
use Rattle.qp_model.specs.machine.Controller.{numbers}
use Rattle.c_writer.specs.Terms.{IsShortGain}
use Rattle.c_writer.proofs.Each.{each_none, each_more, each_failed, each_passed}
use Rattle.c_writer.proofs.parts_test.are_gains_short.Goals as goal

pub loop-i-init : goal.loop-i-init
loop-i-init c = each_none (IsShortGain (numbers c.args.from.now.c.now) c.args.j)

pub returns-then-not-is_gain_short : goal.returns-then-not-is_gain_short
returns-then-not-is_gain_short c =
    let n = numbers c.args.from.now.c.now in
    each_failed (IsShortGain n c.args.j) (length n.bounds) c.loop-i.i c.is_gain_short.result (omega (arith, c.loop-i-test.true, c.len-i-end.ensures)) c.is_gain_short.ensures c.if-not-is_gain_short.true

pub loop-i-preserved : goal.loop-i-preserved
loop-i-preserved c =
    each_more (IsShortGain (numbers c.args.from.now.c.now) c.args.j) c.loop-i.i c.loop-i.invariant (c.is_gain_short.ensures.0 c.if-not-is_gain_short.false)

pub returns : goal.returns
returns c =
    let n = numbers c.args.from.now.c.now in
    each_passed (IsShortGain n c.args.j) (length n.bounds) c.loop-i.i (omega (arith, c.loop-i-test.false, c.len-i-end.ensures)) c.loop-i.invariant
