use Rattle.std.proofs.Common.{◌≡◌, ◌+◌, ◌*◌, ◌∙◌, max, unsigned_abs, to_z, of_z, arith, rules, refl, FitsSigned}
use Rattle.std.specs.Int.{w128}
use Rattle.std.proofs.lemmas.Int.{to_z-of_z}
use Rattle.integer_algebra.specs.Sums.{at}
use Rattle.qp_model.specs.problem.Parts.{design_of}
use Rattle.qp_model.specs.machine.Controller.{numbers}
use Rattle.settle_check.specs.Still.{box_of}
use Rattle.settle_check.specs.ClosedRows.{loop_over, left_of}
use Rattle.settle_check.specs.TurnSize.{through_size}
use Rattle.settle_check.proofs.CountedFacts.{le_times_reach}
use Rattle.settle_check.proofs.rows.left_over.Goals as goal

pub returns-in_err-over-clause-room : goal.returns-in_err-over-clause-room
returns-in_err-over-clause-room c =
    let d = design_of c.args.parts.now in
    let n = numbers c.args.c.now in
    let t = through_size d n (at c.args.row.now) c.args.k in
    let o = loop_over d n * max (unsigned_abs (at c.args.next.now c.args.k)) 1 in
    let f : FitsSigned w128 c.loop_over.result = search rules in
    let g : FitsSigned w128 c.number_at.result = search rules in
    let is : c.of.result.size * max (unsigned_abs (to_z w128 (of_z w128 c.number_at.result))) 1 ≡ o = rw (c.of.ensures.size, to_z-of_z w128 _ f, c.loop_over.ensures.value, to_z-of_z w128 _ g, c.number_at.ensures) refl in
    rw c.from_residual.ensures (λ s. cc, λ h. c.in_err-over.ensures.room.1 (omega (arith, is, le_times_reach (t + o) (box_of c.args.low.now c.args.high.now) c.args.k, h)))

pub returns-in_err-left-clause-room : goal.returns-in_err-left-clause-room
returns-in_err-left-clause-room c =
    let d = design_of c.args.parts.now in
    let n = numbers c.args.c.now in
    let t = through_size d n (at c.args.row.now) c.args.k in
    let o = loop_over d n * max (unsigned_abs (at c.args.next.now c.args.k)) 1 in
    let f : FitsSigned w128 c.loop_over.result = search rules in
    let g : FitsSigned w128 c.number_at.result = search rules in
    let over : c.in_ok-over.over.size ≡ o = c.in_ok-over.ensures.size ∙ rw (c.of.ensures.size, to_z-of_z w128 _ f, c.loop_over.ensures.value, to_z-of_z w128 _ g, c.number_at.ensures) refl in
    rw c.from_residual-in_err-left.ensures (
      λ s. cc,
      λ h. c.in_err-left.ensures.room.1
          (omega (arith, c.in_ok-through_loop.ensures.size, over, le_times_reach (t + o) (box_of c.args.low.now c.args.high.now) c.args.k, h)),
    )

pub returns-clause-value : goal.returns-clause-value
returns-clause-value c =
    let d = design_of c.args.parts.now in
    let n = numbers c.args.c.now in
    let f : FitsSigned w128 c.loop_over.result = search rules in
    let g : FitsSigned w128 c.number_at.result = search rules in
    let h : FitsSigned w128 c.number_at-2.result = search rules in
    let k : FitsSigned w128 c.number_at-3.result = search rules in
    let value : c.in_ok-left.left.value ≡ left_of d n (at c.args.row.now) (at c.args.next.now) c.args.k =
    rw (c.in_ok-left.ensures.value, c.in_ok-through_loop.ensures.value, c.in_ok-over.ensures.value, c.of.ensures.value, to_z-of_z w128 _ f, c.loop_over.ensures.value, to_z-of_z w128 _ g, c.number_at.ensures) refl in
    rw (value, to_z-of_z w128 _ h, to_z-of_z w128 _ k, c.number_at-2.ensures, c.number_at-3.ensures) at c.greatest_over.ensures.value

pub returns-clause-size : goal.returns-clause-size
returns-clause-size c =
    let d = design_of c.args.parts.now in
    let n = numbers c.args.c.now in
    let t = through_size d n (at c.args.row.now) c.args.k in
    let o = loop_over d n * max (unsigned_abs (at c.args.next.now c.args.k)) 1 in
    let f : FitsSigned w128 c.loop_over.result = search rules in
    let g : FitsSigned w128 c.number_at.result = search rules in
    let over : c.in_ok-over.over.size ≡ o = c.in_ok-over.ensures.size ∙ rw (c.of.ensures.size, to_z-of_z w128 _ f, c.loop_over.ensures.value, to_z-of_z w128 _ g, c.number_at.ensures) refl in
    let h : FitsSigned w128 c.number_at-2.result = search rules in
    let k : FitsSigned w128 c.number_at-3.result = search rules in
    let left : c.in_ok-left.left.size ≡ t + o = rw (c.in_ok-left.ensures.size, c.in_ok-through_loop.ensures.size, over) refl in
    rw (left, to_z-of_z w128 _ h, to_z-of_z w128 _ k, c.number_at-2.ensures, c.number_at-3.ensures) at c.greatest_over.ensures.size

pub returns-clause-room : goal.returns-clause-room
returns-clause-room c =
    let d = design_of c.args.parts.now in
    let n = numbers c.args.c.now in
    let t = through_size d n (at c.args.row.now) c.args.k in
    let o = loop_over d n * max (unsigned_abs (at c.args.next.now c.args.k)) 1 in
    let f : FitsSigned w128 c.loop_over.result = search rules in
    let g : FitsSigned w128 c.number_at.result = search rules in
    let over : c.in_ok-over.over.size ≡ o = c.in_ok-over.ensures.size ∙ rw (c.of.ensures.size, to_z-of_z w128 _ f, c.loop_over.ensures.value, to_z-of_z w128 _ g, c.number_at.ensures) refl in
    let h : FitsSigned w128 c.number_at-2.result = search rules in
    let k : FitsSigned w128 c.number_at-3.result = search rules in
    let left : c.in_ok-left.left.size ≡ t + o = rw (c.in_ok-left.ensures.size, c.in_ok-through_loop.ensures.size, over) refl in
    rw (left, to_z-of_z w128 _ h, to_z-of_z w128 _ k, c.number_at-2.ensures, c.number_at-3.ensures) at c.greatest_over.ensures.room
