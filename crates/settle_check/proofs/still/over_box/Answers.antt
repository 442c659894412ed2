use Rattle.std.proofs.Common.{◌≡◌, ℕ, ◌*◌, ◌<◌, ◌∙◌, max, ℤ, ◌*ℤ◌, unsigned_abs, to_z, of_z, arith, rules, refl, FitsSigned}
use Rattle.std.specs.Int.{w128, int_max}
use Rattle.std.proofs.lemmas.Int.{to_z-of_z}
use Rattle.integer_algebra.specs.Sums.{at}
use Rattle.integer_algebra.proofs.SumLaws.{total_more}
use Rattle.integer_algebra.proofs.SizeLaws.{amount_term, amount_next, amount_more}
use Rattle.qp_model.specs.machine.Controller.{numbers}
use Rattle.settle_check.specs.Still.{box_of, still_coefficient}
use Rattle.settle_check.specs.StillSize.{still_coefficient_size, furthest}
use Rattle.settle_check.proofs.CountedFacts.{le_times_reach}
use Rattle.settle_check.proofs.still.over_box.Goals as goal

pub returns-in_err-coefficient-clause-room : goal.returns-in_err-coefficient-clause-room
returns-in_err-coefficient-clause-room c =
    let box = box_of c.args.low.now c.args.high.now in
    let term : ℕ → ℕ = λ k. still_coefficient_size (numbers c.args.c.now) c.args.i k * furthest box k in
    let lt : c.loop-j.j < c.args.c.now.n = omega (arith, c.loop-j-test.true, c.loop-j.invariant.end) in
    rw c.from_residual.ensures (
      λ s. cc,
      λ h. c.in_err-coefficient.ensures.room.1
          (omega (arith, amount_term c.loop-j.j c.args.c.now.n term lt, le_times_reach (still_coefficient_size (numbers c.args.c.now) c.args.i c.loop-j.j) box c.loop-j.j, h)),
    )

pub returns-in_err-most-clause-room : goal.returns-in_err-most-clause-room
returns-in_err-most-clause-room c =
    let box = box_of c.args.low.now c.args.high.now in
    let term : ℕ → ℕ = λ k. still_coefficient_size (numbers c.args.c.now) c.args.i k * furthest box k in
    let lt : c.loop-j.j < c.args.c.now.n = omega (arith, c.loop-j-test.true, c.loop-j.invariant.end) in
    let f : FitsSigned w128 c.number_at.result = search rules in
    let g : FitsSigned w128 c.number_at-in-loop-j.result = search rules in
    let is : c.in_ok-coefficient.field-0.size * max (max (unsigned_abs (to_z w128 (of_z w128 c.number_at.result))) (unsigned_abs (to_z w128 (of_z w128 c.number_at-in-loop-j.result)))) 1 ≡ term c.loop-j.j =
    rw (c.in_ok-coefficient.ensures.size, to_z-of_z w128 _ f, to_z-of_z w128 _ g, c.number_at.ensures, c.number_at-in-loop-j.ensures) refl in
    rw c.from_residual-in_err-most.ensures (λ s. cc, λ h. c.in_err-most.ensures.room.1 (omega (arith, amount_term c.loop-j.j c.args.c.now.n term lt, is, h)))

pub returns-in_err-sum-clause-room : goal.returns-in_err-sum-clause-room
returns-in_err-sum-clause-room c =
    let box = box_of c.args.low.now c.args.high.now in
    let term : ℕ → ℕ = λ k. still_coefficient_size (numbers c.args.c.now) c.args.i k * furthest box k in
    let lt : c.loop-j.j < c.args.c.now.n = omega (arith, c.loop-j-test.true, c.loop-j.invariant.end) in
    let f : FitsSigned w128 c.number_at.result = search rules in
    let g : FitsSigned w128 c.number_at-in-loop-j.result = search rules in
    let is : c.in_ok-most.most.size ≡ term c.loop-j.j = c.in_ok-most.ensures.size ∙ rw (c.in_ok-coefficient.ensures.size, to_z-of_z w128 _ f, to_z-of_z w128 _ g, c.number_at.ensures, c.number_at-in-loop-j.ensures) refl in
    rw c.from_residual-in_err-sum.ensures (λ s. cc, λ h. c.in_err-sum.ensures.room.1 (omega (arith, amount_next c.loop-j.j c.args.c.now.n term lt, is, c.loop-j.invariant.size, h)))

pub loop-j-preserved : goal.loop-j-preserved
loop-j-preserved c =
    let box = box_of c.args.low.now c.args.high.now in
    let number : ℕ → ℤ = λ k. int_max (still_coefficient (numbers c.args.c.now) c.args.i k *ℤ at c.args.low.now k) (still_coefficient (numbers c.args.c.now) c.args.i k *ℤ at c.args.high.now k) in
    let term : ℕ → ℕ = λ k. still_coefficient_size (numbers c.args.c.now) c.args.i k * furthest box k in
    let lt : c.loop-j.j < c.args.c.now.n = omega (arith, c.loop-j-test.true, c.loop-j.invariant.end) in
    let f : FitsSigned w128 c.number_at.result = search rules in
    let g : FitsSigned w128 c.number_at-in-loop-j.result = search rules in
    let value : c.in_ok-most.most.value ≡ number c.loop-j.j = c.in_ok-most.ensures.value ∙ rw (c.in_ok-coefficient.ensures.value, to_z-of_z w128 _ f, to_z-of_z w128 _ g, c.number_at.ensures, c.number_at-in-loop-j.ensures) refl in
    let size : c.in_ok-most.most.size ≡ term c.loop-j.j = c.in_ok-most.ensures.size ∙ rw (c.in_ok-coefficient.ensures.size, to_z-of_z w128 _ f, to_z-of_z w128 _ g, c.number_at.ensures, c.number_at-in-loop-j.ensures) refl in
    record {
      end = c.loop-j.invariant.end;
      value = c.in_ok-sum.ensures.value ∙ rw (total_more c.loop-j.j number, c.loop-j.invariant.value, value) refl;
      size = c.in_ok-sum.ensures.size ∙ rw (amount_more c.loop-j.j term, c.loop-j.invariant.size, size) refl;
      room = omega (arith, c.in_ok-sum.ensures.room.0 refl, c.in_ok-sum.ensures.size);
    }
