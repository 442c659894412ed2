use Rattle.std.proofs.Common.{ℕ, ◌<◌, length, arith}
use Rattle.qp_model.specs.machine.Controller.{numbers}
use Rattle.c_writer.specs.Terms.{IsShortFactor}
use Rattle.c_writer.specs.declared.measured.Measured.{Measured}
use Rattle.c_writer.proofs.Each.{each_none, each_more, each_failed, each_passed}
use Rattle.c_writer.proofs.parts_test.are_rows_short.Goals as goal

abbrev Holds : Measured → ℕ → Type 0
Holds m k = (j : ℕ) → j < length (numbers m.c.now).offsets → IsShortFactor (numbers m.c.now) k j

pub loop-i-init : goal.loop-i-init
loop-i-init c = each_none (Holds c.args.from.now)

pub returns-then-not-is_row_short : goal.returns-then-not-is_row_short
returns-then-not-is_row_short c =
    each_failed (Holds c.args.from.now) (length (numbers c.args.from.now.c.now).bounds) c.loop-i.i c.is_row_short.result (omega (arith, c.loop-i-test.true, c.len-i-end.ensures)) c.is_row_short.ensures c.if-not-is_row_short.true

pub loop-i-preserved : goal.loop-i-preserved
loop-i-preserved c = each_more (Holds c.args.from.now) c.loop-i.i c.loop-i.invariant (c.is_row_short.ensures.0 c.if-not-is_row_short.false)

pub returns : goal.returns
returns c = each_passed (Holds c.args.from.now) (length (numbers c.args.from.now.c.now).bounds) c.loop-i.i (omega (arith, c.loop-i-test.false, c.len-i-end.ensures)) c.loop-i.invariant
