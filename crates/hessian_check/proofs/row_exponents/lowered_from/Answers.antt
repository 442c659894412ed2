use Rattle.std.proofs.Common.{◌+◌, length, arith, ap, ◌∙◌, refl}
use Rattle.std.proofs.lemmas.List.{length_push}
use Rattle.qp_model.specs.problem.Parts.{design_of}
use Rattle.hessian_check.specs.Lowering.{AreTestedSums}
use Rattle.hessian_check.specs.RowExponents.{IsLowered}
use Rattle.hessian_check.specs.Steps.{OfDesign}
use Rattle.hessian_check.proofs.LoweringLaws.{next_lowered, next_sums, none_lowered}
use Rattle.hessian_check.proofs.row_exponents.lowered_from.Goals as goal

pub loop-init : goal.loop-init
loop-init c = rw c.in_ok-list.ensures.items (record {
  long = refl;
  cost = c.requires.cost;
  each = λ p f i l. absurd (omega arith);
  sums = none_lowered c.args.c.now c.args.s c.args.sums.now.mid c.args.sums.now.rad c.requires.sums;
})

pub lowered-requires-clause-ready : goal.lowered-requires-clause-ready
lowered-requires-clause-ready c = record {
  chosen = c.requires.chosen;
  room = c.requires.room;
  before = λ p f. rw c.deref.ensures.value (c.loop.invariant.each p f);
  left = (let n = c.loop.invariant.long in omega arith);
}

pub loop-preserved : goal.loop-preserved
loop-preserved c =
    let s = c.args.s in
    let es = c.loop.list.items in
    let e = c.in_ok-exponent.exponent in
    let m = c.lowered.new.sums in
    let own : OfDesign c.args.c.now (λ d. IsLowered d s es (length es) e) = λ p f. rw c.deref.ensures.value at (c.in_ok-exponent.ensures.lowered p f) in
    let sums : AreTestedSums c.args.c.now es (length es) e s m = rw c.deref.ensures.value at c.in_ok-exponent.ensures.sums in
    rw c.in_ok-push.ensures.items (record {
      long = length_push es e ∙ ap (λ n. n + 1) c.loop.invariant.long;
      cost = c.in_ok-exponent.ensures.cost;
      each = λ p f. next_lowered es e s (design_of p) (c.loop.invariant.each p f) (own p f);
      sums = next_sums es e s c.args.c.now m.mid m.rad sums;
    })

pub returns : goal.returns
returns c = λ p f. record {
  long = (let i = c.loop.invariant.long in let r = f.shapes.g.rows in omega arith);
  each = λ i l. (let n = c.loop.invariant.long in let r = f.shapes.g.rows in c.loop.invariant.each p f i (omega arith));
}
