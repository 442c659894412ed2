use Rattle.std.proofs.Common.{◌≡◌, get_or, pos, arith, rules, FitsSigned, below_more}
use Rattle.std.specs.Int.{w128}
use Rattle.std.proofs.lemmas.Int.{ints}
use Rattle.std.proofs.lemmas.List.{get_or_read}
use Rattle.integer_algebra.specs.Sums.{at}
use Rattle.qp_model.specs.machine.Controller.{numbers}
use Rattle.qp_model.specs.machine.Machine.{IsInside}
use Rattle.fixed_kernel.proofs.state.first_outside.Goals as goal
use Rattle.fixed_kernel.proofs.state.first_outside.Goals.{then-x-index-via-then-x-index, then-x-index-via-else-x-index+then-index-x}

pub loop-i-preserved : goal.loop-i-preserved
loop-i-preserved c =
    let i = c.loop-i.i in
    let boxed = c.requires.boxed in
    let x : FitsSigned w128 (get_or c.args.state.now i (pos 0)) = search rules in
    let low : FitsSigned w128 c.index.result.now = search rules in
    let high : FitsSigned w128 c.index-else-x-index.result.now = search rules in
    let low_read : c.index.result.now ≡ at c.args.c.now.lo.items i = get_or_read c.args.c.now.lo.items i c.index.result.now (omega (arith, boxed.low, c.requires.long)) c.index.ensures (pos 0) in
    let high_read : c.index-else-x-index.result.now ≡ at c.args.c.now.hi.items i = get_or_read c.args.c.now.hi.items i c.index-else-x-index.result.now (omega (arith, boxed.high, c.requires.long)) c.index-else-x-index.ensures (pos 0) in
    record {
      place = omega (arith, c.loop-i.invariant.place);
      inside = below_more (IsInside (numbers c.args.c.now) c.args.state.now) i c.loop-i.invariant.inside
          (record { low = omega (arith, ints, low_read, c.if-x-index.false); high = omega (arith, ints, high_read, c.if-index-x.false) });
    }

-- where the loop leaves, its coordinate lies outside
outside : (c : goal.Joined-then-x-index) → IsInside (numbers c.args.c.now) c.args.state.now c.loop-i.i → ⊥
outside c h =
    let i = c.loop-i.i in
    let boxed = c.requires.boxed in
    let x : FitsSigned w128 (get_or c.args.state.now i (pos 0)) = search rules in
    let low : FitsSigned w128 c.index.result.now = search rules in
    let low_read : c.index.result.now ≡ at c.args.c.now.lo.items i = get_or_read c.args.c.now.lo.items i c.index.result.now (omega (arith, boxed.low, c.requires.long)) c.index.ensures (pos 0) in
    elim c.then-x-index.branch [
      | then-x-index-via-then-x-index w ↦ omega (arith, ints, low_read, h.low, w.if-x-index.true)
      | then-x-index-via-else-x-index+then-index-x w ↦
          let high : FitsSigned w128 w.index-else-x-index.result.now = search rules in
          let high_read : w.index-else-x-index.result.now ≡ at c.args.c.now.hi.items i = get_or_read c.args.c.now.hi.items i w.index-else-x-index.result.now (omega (arith, boxed.high, c.requires.long)) w.index-else-x-index.ensures (pos 0) in
          omega (arith, ints, high_read, h.high, w.if-index-x.true)
    ]

pub returns-then-x-index-clause-inside : goal.returns-then-x-index-clause-inside
returns-then-x-index-clause-inside c = (λ e. cc, λ a. absurd (outside c (a.each c.loop-i.i (omega (arith, c.requires.long)))))

pub returns-then-x-index-clause-first : goal.returns-then-x-index-clause-first
returns-then-x-index-clause-first c =
    record {
      low = omega arith;
      high = omega (arith, c.requires.long);
      outside = λ k e. let here : k ≡ c.loop-i.i = omega (arith, c.loop-i.invariant.place) in rw here (outside c);
      before = λ k h. c.loop-i.invariant.inside k (omega (arith, c.loop-i.invariant.place));
    }
