use Rattle.std.proofs.Common.{◌≡◌, ℕ, ◌*◌, ◌<◌, ◌∙◌, max, ℤ, ◌*ℤ◌, unsigned_abs, to_z, of_z, arith, rules, refl, FitsSigned}
use Rattle.std.specs.Int.{w128, int_max}
use Rattle.std.proofs.lemmas.Int.{to_z-of_z}
use Rattle.integer_algebra.specs.Sums.{at}
use Rattle.integer_algebra.proofs.SumLaws.{total_more}
use Rattle.integer_algebra.proofs.SizeLaws.{amount_term, amount_next, amount_more}
use Rattle.settle_check.specs.Still.{box_of}
use Rattle.settle_check.specs.StillSize.{furthest}
use Rattle.settle_check.proofs.rows.row_over.Goals as goal

pub returns-in_err-most-clause-room : goal.returns-in_err-most-clause-room
returns-in_err-most-clause-room c =
    let box = box_of c.args.low.now c.args.high.now in
    let term : ℕ → ℕ = λ k. unsigned_abs (at c.args.row.now k) * furthest box k in
    let lt : c.loop-k.k < c.args.parts.now.states = omega (arith, c.loop-k-test.true, c.loop-k.invariant.end) in
    let e : FitsSigned w128 c.number_at.result = search rules in
    let f : FitsSigned w128 c.number_at-in-loop-k.result = search rules in
    let g : FitsSigned w128 c.number_at-in-loop-k-2.result = search rules in
    let is : c.of-own.result.size * max (max (unsigned_abs (to_z w128 (of_z w128 c.number_at-in-loop-k.result))) (unsigned_abs (to_z w128 (of_z w128 c.number_at-in-loop-k-2.result)))) 1 ≡ term c.loop-k.k =
    rw (c.of-own.ensures.size, to_z-of_z w128 _ e, c.number_at.ensures, to_z-of_z w128 _ f, to_z-of_z w128 _ g, c.number_at-in-loop-k.ensures, c.number_at-in-loop-k-2.ensures) refl in
    rw c.from_residual.ensures (λ s. cc, λ h. c.in_err-most.ensures.room.1 (omega (arith, amount_term c.loop-k.k c.args.parts.now.states term lt, is, h)))

pub returns-in_err-sum-clause-room : goal.returns-in_err-sum-clause-room
returns-in_err-sum-clause-room c =
    let box = box_of c.args.low.now c.args.high.now in
    let term : ℕ → ℕ = λ k. unsigned_abs (at c.args.row.now k) * furthest box k in
    let lt : c.loop-k.k < c.args.parts.now.states = omega (arith, c.loop-k-test.true, c.loop-k.invariant.end) in
    let e : FitsSigned w128 c.number_at.result = search rules in
    let f : FitsSigned w128 c.number_at-in-loop-k.result = search rules in
    let g : FitsSigned w128 c.number_at-in-loop-k-2.result = search rules in
    let is : c.in_ok-most.most.size ≡ term c.loop-k.k =
    c.in_ok-most.ensures.size ∙ rw (c.of-own.ensures.size, to_z-of_z w128 _ e, c.number_at.ensures, to_z-of_z w128 _ f, to_z-of_z w128 _ g, c.number_at-in-loop-k.ensures, c.number_at-in-loop-k-2.ensures) refl in
    rw c.from_residual-in_err-sum.ensures (λ s. cc, λ h. c.in_err-sum.ensures.room.1 (omega (arith, amount_next c.loop-k.k c.args.parts.now.states term lt, is, c.loop-k.invariant.size, h)))

pub loop-k-preserved : goal.loop-k-preserved
loop-k-preserved c =
    let box = box_of c.args.low.now c.args.high.now in
    let number : ℕ → ℤ = λ k. int_max (at c.args.row.now k *ℤ at c.args.low.now k) (at c.args.row.now k *ℤ at c.args.high.now k) in
    let term : ℕ → ℕ = λ k. unsigned_abs (at c.args.row.now k) * furthest box k in
    let lt : c.loop-k.k < c.args.parts.now.states = omega (arith, c.loop-k-test.true, c.loop-k.invariant.end) in
    let e : FitsSigned w128 c.number_at.result = search rules in
    let f : FitsSigned w128 c.number_at-in-loop-k.result = search rules in
    let g : FitsSigned w128 c.number_at-in-loop-k-2.result = search rules in
    let value : c.in_ok-most.most.value ≡ number c.loop-k.k =
    c.in_ok-most.ensures.value ∙ rw (c.of-own.ensures.value, to_z-of_z w128 _ e, c.number_at.ensures, to_z-of_z w128 _ f, to_z-of_z w128 _ g, c.number_at-in-loop-k.ensures, c.number_at-in-loop-k-2.ensures) refl in
    let size : c.in_ok-most.most.size ≡ term c.loop-k.k =
    c.in_ok-most.ensures.size ∙ rw (c.of-own.ensures.size, to_z-of_z w128 _ e, c.number_at.ensures, to_z-of_z w128 _ f, to_z-of_z w128 _ g, c.number_at-in-loop-k.ensures, c.number_at-in-loop-k-2.ensures) refl in
    record {
      end = c.loop-k.invariant.end;
      value = c.in_ok-sum.ensures.value ∙ rw (total_more c.loop-k.k number, c.loop-k.invariant.value, value) refl;
      size = c.in_ok-sum.ensures.size ∙ rw (amount_more c.loop-k.k term, c.loop-k.invariant.size, size) refl;
      room = omega (arith, c.in_ok-sum.ensures.room.0 refl, c.in_ok-sum.ensures.size);
    }
