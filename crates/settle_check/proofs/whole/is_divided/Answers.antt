use Rattle.std.proofs.Common.{◌≡◌, ◌%◌, ◌<◌, ℕ, unsigned_abs, arith, rules, FitsSigned, ap, ◌∙◌}
use Rattle.std.specs.Int.{w128}
use Rattle.std.proofs.lemmas.Int.{to_z-of_z}
use Rattle.integer_algebra.proofs.SizeLaws.{amount_term}
use Rattle.mat_int.specs.Matrix.{entry_of}
use Rattle.settle_check.proofs.whole.is_divided.Goals as goal

pub returns-then-unsigned_abs-over-ne0 : goal.returns-then-unsigned_abs-over-ne0
returns-then-unsigned_abs-over-ne0 c =
    let f : FitsSigned w128 c.at.result = search rules in
    let term : ℕ → ℕ = λ k. unsigned_abs (entry_of c.args.parts.now.a c.args.i k) % unsigned_abs c.args.parts.now.plant_den in
    let lt : c.loop-k.k < c.args.parts.now.states = omega (arith, c.loop-k-test.true, c.loop-k.invariant.end) in
    let number : c.unsigned_abs.result ≡ unsigned_abs (entry_of c.args.parts.now.a c.args.i c.loop-k.k) = c.unsigned_abs.ensures.value ∙ ap unsigned_abs (to_z-of_z w128 _ f ∙ c.at.ensures) in
    let over : c.unsigned_abs-over.result ≡ unsigned_abs c.args.parts.now.plant_den = search rules in
    (λ t. cc, λ z. absurd (c.if-unsigned_abs-over-ne0.true (rw (number, over) (omega (arith, amount_term c.loop-k.k c.args.parts.now.states term lt, z)))))
