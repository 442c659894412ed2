use Rattle.std.proofs.Common.{ℕ, ◌<◌, ◌^◌, length, arith, IsTrue, ◌↔◌, subst}
use Rattle.qp_model.specs.machine.Controller.{numbers}
use Rattle.c_writer.specs.Measured.{sizes_in}
use Rattle.c_writer.specs.declared.measured.Measured.{Measured}
use Rattle.c_writer.proofs.Each.{each_none, each_more, each_failed, each_passed}
use Rattle.c_writer.proofs.parts_test.do_moved_fit.Goals as goal

abbrev Holds : Measured → ℕ → Type 0
Holds m k = (sizes_in m).moved k < 2 ^ 63

pub loop-i-init : goal.loop-i-init
loop-i-init c = each_none (Holds c.args.from.now)

pub returns-then-not-does_fit : goal.returns-then-not-does_fit
returns-then-not-does_fit c =
    each_failed (Holds c.args.from.now) (length (numbers c.args.from.now.c.now).bounds) c.loop-i.i c.does_fit.result (omega (arith, c.loop-i-test.true, c.len-i-end.ensures))
    (subst (λ (a : ℕ). IsTrue c.does_fit.result ↔ (a < 2 ^ 63)) c.moved_top.ensures c.does_fit.ensures) c.if-not-does_fit.true

pub loop-i-preserved : goal.loop-i-preserved
loop-i-preserved c = each_more (Holds c.args.from.now) c.loop-i.i c.loop-i.invariant ((subst (λ (a : ℕ). IsTrue c.does_fit.result ↔ (a < 2 ^ 63)) c.moved_top.ensures c.does_fit.ensures).0 c.if-not-does_fit.false)

pub returns : goal.returns
returns c = each_passed (Holds c.args.from.now) (length (numbers c.args.from.now.c.now).bounds) c.loop-i.i (omega (arith, c.loop-i-test.false, c.len-i-end.ensures)) c.loop-i.invariant
