use Rattle.std.proofs.Common.{ℕ, ◌<◌, ◌^◌, length, arith, IsTrue, ◌↔◌, subst}
use Rattle.qp_model.specs.machine.Controller.{numbers}
use Rattle.c_writer.specs.Measured.{sizes_in}
use Rattle.c_writer.specs.declared.measured.Measured.{Measured}
use Rattle.c_writer.proofs.Each.{each_none, each_more, each_failed, each_passed}
use Rattle.c_writer.proofs.parts_test.do_sums_fit.Goals as goal

abbrev Holds : Measured → ℕ → Type 0
Holds m k = (sizes_in m).sum k < 2 ^ 63

pub loop-j-init : goal.loop-j-init
loop-j-init c = each_none (Holds c.args.from.now)

pub returns-then-not-does_fit : goal.returns-then-not-does_fit
returns-then-not-does_fit c =
    each_failed (Holds c.args.from.now) (length (numbers c.args.from.now.c.now).offsets) c.loop-j.j c.does_fit.result (omega (arith, c.loop-j-test.true, c.len-j-end.ensures))
    (subst (λ (a : ℕ). IsTrue c.does_fit.result ↔ (a < 2 ^ 63)) c.sum_top.ensures c.does_fit.ensures) c.if-not-does_fit.true

pub loop-j-preserved : goal.loop-j-preserved
loop-j-preserved c = each_more (Holds c.args.from.now) c.loop-j.j c.loop-j.invariant ((subst (λ (a : ℕ). IsTrue c.does_fit.result ↔ (a < 2 ^ 63)) c.sum_top.ensures c.does_fit.ensures).0 c.if-not-does_fit.false)

pub returns : goal.returns
returns c = each_passed (Holds c.args.from.now) (length (numbers c.args.from.now.c.now).offsets) c.loop-j.j (omega (arith, c.loop-j-test.false, c.len-j-end.ensures)) c.loop-j.invariant
