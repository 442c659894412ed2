use Rattle.std.proofs.Common.{ℕ, ◌<◌, length, arith}
use Rattle.qp_model.specs.machine.Controller.{Numbers, numbers}
use Rattle.c_writer.specs.Terms.{IsShortGain}
use Rattle.c_writer.proofs.Each.{each_none, each_more, each_failed, each_passed}
use Rattle.c_writer.proofs.parts_test.are_all_gains_short.Goals as goal

abbrev AreShort : Numbers → ℕ → Type 0
AreShort n j = (i : ℕ) → i < length n.bounds → IsShortGain n j i

pub loop-j-init : goal.loop-j-init
loop-j-init c = each_none (AreShort (numbers c.args.from.now.c.now))

pub returns-then-not-are_gains_short : goal.returns-then-not-are_gains_short
returns-then-not-are_gains_short c =
    let n = numbers c.args.from.now.c.now in
    each_failed (AreShort n) (length n.offsets) c.loop-j.j c.are_gains_short.result (omega (arith, c.loop-j-test.true, c.len-j-end.ensures)) c.are_gains_short.ensures c.if-not-are_gains_short.true

pub loop-j-preserved : goal.loop-j-preserved
loop-j-preserved c = each_more (AreShort (numbers c.args.from.now.c.now)) c.loop-j.j c.loop-j.invariant (c.are_gains_short.ensures.0 c.if-not-are_gains_short.false)

pub returns : goal.returns
returns c =
    let n = numbers c.args.from.now.c.now in
    each_passed (AreShort n) (length n.offsets) c.loop-j.j (omega (arith, c.loop-j-test.false, c.len-j-end.ensures)) c.loop-j.invariant
