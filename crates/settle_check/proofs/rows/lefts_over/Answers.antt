use Rattle.std.proofs.Common.{ℕ, ◌<◌, ◌∙◌, ℤ, ◌*ℤ◌, arith, refl}
use Rattle.std.specs.Int.{int_max}
use Rattle.integer_algebra.specs.Sums.{at}
use Rattle.integer_algebra.proofs.SumLaws.{total_more}
use Rattle.integer_algebra.proofs.SizeLaws.{amount_term, amount_next, amount_more}
use Rattle.qp_model.specs.problem.Parts.{design_of}
use Rattle.qp_model.specs.machine.Controller.{numbers}
use Rattle.settle_check.specs.Still.{box_of}
use Rattle.settle_check.specs.ClosedRows.{left_of}
use Rattle.settle_check.specs.TurnSize.{left_over_size}
use Rattle.settle_check.proofs.rows.lefts_over.Goals as goal

pub returns-in_err-most-clause-room : goal.returns-in_err-most-clause-room
returns-in_err-most-clause-room c =
    let term : ℕ → ℕ = left_over_size (design_of c.args.parts.now) (numbers c.args.c.now) (box_of c.args.low.now c.args.high.now) (at c.args.row.now) (at c.args.next.now) in
    let lt : c.loop-k.k < c.args.parts.now.states = omega (arith, c.loop-k-test.true, c.loop-k.invariant.end) in
    rw c.from_residual.ensures (λ s. cc, λ h. c.in_err-most.ensures.room.1 (omega (arith, amount_term c.loop-k.k c.args.parts.now.states term lt, h)))

pub returns-in_err-sum-clause-room : goal.returns-in_err-sum-clause-room
returns-in_err-sum-clause-room c =
    let term : ℕ → ℕ = left_over_size (design_of c.args.parts.now) (numbers c.args.c.now) (box_of c.args.low.now c.args.high.now) (at c.args.row.now) (at c.args.next.now) in
    let lt : c.loop-k.k < c.args.parts.now.states = omega (arith, c.loop-k-test.true, c.loop-k.invariant.end) in
    rw c.from_residual-in_err-sum.ensures (
      λ s. cc,
      λ h. c.in_err-sum.ensures.room.1
          (omega (arith, amount_next c.loop-k.k c.args.parts.now.states term lt, c.in_ok-most.ensures.size, c.loop-k.invariant.size, h)),
    )

pub loop-k-preserved : goal.loop-k-preserved
loop-k-preserved c =
    let left : ℕ → ℤ = left_of (design_of c.args.parts.now) (numbers c.args.c.now) (at c.args.row.now) (at c.args.next.now) in
    let number : ℕ → ℤ = λ k. int_max (left k *ℤ at c.args.low.now k) (left k *ℤ at c.args.high.now k) in
    let term : ℕ → ℕ = left_over_size (design_of c.args.parts.now) (numbers c.args.c.now) (box_of c.args.low.now c.args.high.now) (at c.args.row.now) (at c.args.next.now) in
    record {
      end = c.loop-k.invariant.end;
      value = c.in_ok-sum.ensures.value ∙ rw (total_more c.loop-k.k number, c.loop-k.invariant.value, c.in_ok-most.ensures.value) refl;
      size = c.in_ok-sum.ensures.size ∙ rw (amount_more c.loop-k.k term, c.loop-k.invariant.size, c.in_ok-most.ensures.size) refl;
      room = omega (arith, c.in_ok-sum.ensures.room.0 refl, c.in_ok-sum.ensures.size);
    }
