use Rattle.std.proofs.Common.{◌≡◌, ◌≤ℤ◌, ◌∙◌, ◌*◌, ◌^◌, rules, arith, pos, ℕ, ap, unsigned_abs}
use Rattle.std.specs.Int.{w128}
use mir.Val.{SFits}
use Rattle.std.proofs.lemmas.Int.{to_z-of_z, to_z_pos, ints}
use Rattle.integer_algebra.specs.Division.{ceil_div}
use Rattle.qp_model.specs.bounds.Choices.{multiplier_bound}
use Rattle.dual_bounds.proofs.NumberFacts.{quotient_is, size_le}
use Rattle.dual_bounds.proofs.numbers.multiplier.Goals as goal

pub returns-then-bound-clause-value : goal.returns-then-bound-clause-value
returns-then-bound-clause-value c = λ h.
    let units = c.args.margin.now.units in
    let cost = c.args.margin.now.cost in
    let f : SFits w128 units = search rules in
    let g : SFits w128 cost = search rules in
    let count : c.div_ceil.result ≡ ceil_div (2 ^ 16 * unsigned_abs cost) (unsigned_abs units) =
    quotient_is _ (c.unsigned_abs-cost.result * 65536) _ _ units c.requires.units (omega (arith, rw (to_z-of_z w128 _ g) at c.unsigned_abs-cost.ensures.value))
    (rw (to_z-of_z w128 _ f) at c.unsigned_abs-units.ensures.value) c.div_ceil.ensures in
    let bound : c.max-bound.result ≡ multiplier_bound (unsigned_abs units) (unsigned_abs cost) = omega (arith, count, c.max-bound.ensures) in
    omega (arith, bound, h, c.if-bound.true)

pub returns-clause-value : goal.returns-clause-value
returns-clause-value c =
    let units = c.args.margin.now.units in
    let cost = c.args.margin.now.cost in
    let f : SFits w128 units = search rules in
    let g : SFits w128 cost = search rules in
    let count : c.div_ceil.result ≡ ceil_div (2 ^ 16 * unsigned_abs cost) (unsigned_abs units) =
    quotient_is _ (c.unsigned_abs-cost.result * 65536) _ _ units c.requires.units (omega (arith, rw (to_z-of_z w128 _ g) at c.unsigned_abs-cost.ensures.value))
    (rw (to_z-of_z w128 _ f) at c.unsigned_abs-units.ensures.value) c.div_ceil.ensures in
    let bound : c.max-bound.result ≡ multiplier_bound (unsigned_abs units) (unsigned_abs cost) = omega (arith, count, c.max-bound.ensures) in
    let low : cost ≤ℤ pos (2 ^ 110) = grind (arith, ints) in
    let small = size_le cost (2 ^ 110) c.requires.cost low in
    (omega (arith, bound, small, c.if-bound.false), to_z_pos w128 _ (omega (arith, c.if-bound.false)) ∙ ap (λ (n : ℕ). pos n) bound)
