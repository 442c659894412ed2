use Rattle.std.proofs.Common.{◌≡◌, ℕ, ◌*◌, ◌<◌, ◌∙◌, max, ℤ, ◌*ℤ◌, unsigned_abs, to_z, of_z, arith, rules, refl, FitsSigned}
use Rattle.std.specs.Int.{w128}
use Rattle.std.proofs.lemmas.Int.{to_z-of_z}
use Rattle.integer_algebra.specs.Sums.{at}
use Rattle.integer_algebra.proofs.SumLaws.{total_more}
use Rattle.integer_algebra.proofs.SizeLaws.{amount_term, amount_next, amount_more}
use Rattle.mat_int.specs.Matrix.{entry_of}
use Rattle.settle_check.proofs.rows.input_of_row.Goals as goal

pub returns-in_err-product-clause-room : goal.returns-in_err-product-clause-room
returns-in_err-product-clause-room c =
    let term : ℕ → ℕ = λ i. unsigned_abs (entry_of c.args.parts.now.b i c.args.l) * max (unsigned_abs (at c.args.row.now i)) 1 in
    let lt : c.loop-i.i < c.args.parts.now.states = omega (arith, c.loop-i-test.true, c.loop-i.invariant.end) in
    let f : FitsSigned w128 c.number_at.result = search rules in
    let g : FitsSigned w128 c.at.result = search rules in
    let is : c.of.result.size * max (unsigned_abs (to_z w128 (of_z w128 c.number_at.result))) 1 ≡ term c.loop-i.i =
    rw (c.of.ensures.size, to_z-of_z w128 _ g, c.at.ensures, to_z-of_z w128 _ f, c.number_at.ensures) refl in
    rw c.from_residual.ensures (λ s. cc, λ h. c.in_err-product.ensures.room.1 (omega (arith, amount_term c.loop-i.i c.args.parts.now.states term lt, is, h)))

pub returns-in_err-sum-clause-room : goal.returns-in_err-sum-clause-room
returns-in_err-sum-clause-room c =
    let term : ℕ → ℕ = λ i. unsigned_abs (entry_of c.args.parts.now.b i c.args.l) * max (unsigned_abs (at c.args.row.now i)) 1 in
    let lt : c.loop-i.i < c.args.parts.now.states = omega (arith, c.loop-i-test.true, c.loop-i.invariant.end) in
    let f : FitsSigned w128 c.number_at.result = search rules in
    let g : FitsSigned w128 c.at.result = search rules in
    let is : c.in_ok-product.product.size ≡ term c.loop-i.i = c.in_ok-product.ensures.size ∙ rw (c.of.ensures.size, to_z-of_z w128 _ g, c.at.ensures, to_z-of_z w128 _ f, c.number_at.ensures) refl in
    rw c.from_residual-in_err-sum.ensures (λ s. cc, λ h. c.in_err-sum.ensures.room.1 (omega (arith, amount_next c.loop-i.i c.args.parts.now.states term lt, is, c.loop-i.invariant.size, h)))

pub loop-i-preserved : goal.loop-i-preserved
loop-i-preserved c =
    let number : ℕ → ℤ = λ i. entry_of c.args.parts.now.b i c.args.l *ℤ at c.args.row.now i in
    let term : ℕ → ℕ = λ i. unsigned_abs (entry_of c.args.parts.now.b i c.args.l) * max (unsigned_abs (at c.args.row.now i)) 1 in
    let f : FitsSigned w128 c.number_at.result = search rules in
    let g : FitsSigned w128 c.at.result = search rules in
    let value : c.in_ok-product.product.value ≡ number c.loop-i.i = c.in_ok-product.ensures.value ∙ rw (c.of.ensures.value, to_z-of_z w128 _ g, c.at.ensures, to_z-of_z w128 _ f, c.number_at.ensures) refl in
    let size : c.in_ok-product.product.size ≡ term c.loop-i.i = c.in_ok-product.ensures.size ∙ rw (c.of.ensures.size, to_z-of_z w128 _ g, c.at.ensures, to_z-of_z w128 _ f, c.number_at.ensures) refl in
    record {
      end = c.loop-i.invariant.end;
      value = c.in_ok-sum.ensures.value ∙ rw (total_more c.loop-i.i number, c.loop-i.invariant.value, value) refl;
      size = c.in_ok-sum.ensures.size ∙ rw (amount_more c.loop-i.i term, c.loop-i.invariant.size, size) refl;
      room = omega (arith, c.in_ok-sum.ensures.room.0 refl, c.in_ok-sum.ensures.size);
    }
