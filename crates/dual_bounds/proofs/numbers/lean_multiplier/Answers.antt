use Rattle.std.proofs.Common.{◌≡◌, ◌≤ℤ◌, ◌∙◌, ◌+◌, ◌^◌, ◌<◌, arith, pos, ℕ, ap, unsigned_abs, sym}
use Rattle.std.specs.Int.{w128}
use Rattle.std.proofs.lemmas.Int.{to_z-of_z, to_z_pos, ints}
use Rattle.integer_algebra.specs.Division.{ceil_div}
use Rattle.qp_model.specs.bounds.Choices.{lean_multiplier}
use Rattle.dual_bounds.proofs.NumberFacts.{same_ceil, positive, size_le}
use Rattle.dual_bounds.proofs.numbers.lean_multiplier.Goals as goal

pub returns-then-bound-clause-value : goal.returns-then-bound-clause-value
returns-then-bound-clause-value c = λ h.
    let units = unsigned_abs c.args.units in
    let excess = unsigned_abs c.args.excess in
    let share = unsigned_abs c.args.share in
    let u : c.unsigned_abs.result ≡ units = rw (to_z-of_z w128 _ c.ranges.units) at c.unsigned_abs.ensures.value in
    let s : c.unsigned_abs-2.result ≡ share = rw (to_z-of_z w128 _ c.ranges.share) at c.unsigned_abs-2.ensures.value in
    let x : c.unsigned_abs-3.result ≡ excess = rw (to_z-of_z w128 _ c.ranges.excess) at c.unsigned_abs-3.ensures.value in
    let some : 0 < units + share = omega (arith, positive c.args.units c.requires.units) in
    let count : c.div_ceil.result ≡ ceil_div excess (units + share) = c.div_ceil.ensures ∙ rw (x, u, s) (sym (same_ceil excess (units + share) some)) in
    let bound : c.max-bound.result ≡ lean_multiplier units excess share = omega (arith, count, c.max-bound.ensures) in
    omega (arith, bound, h, c.if-bound.true)

pub returns-clause-value : goal.returns-clause-value
returns-clause-value c =
    let units = unsigned_abs c.args.units in
    let excess = unsigned_abs c.args.excess in
    let share = unsigned_abs c.args.share in
    let u : c.unsigned_abs.result ≡ units = rw (to_z-of_z w128 _ c.ranges.units) at c.unsigned_abs.ensures.value in
    let s : c.unsigned_abs-2.result ≡ share = rw (to_z-of_z w128 _ c.ranges.share) at c.unsigned_abs-2.ensures.value in
    let x : c.unsigned_abs-3.result ≡ excess = rw (to_z-of_z w128 _ c.ranges.excess) at c.unsigned_abs-3.ensures.value in
    let some : 0 < units + share = omega (arith, positive c.args.units c.requires.units) in
    let count : c.div_ceil.result ≡ ceil_div excess (units + share) = c.div_ceil.ensures ∙ rw (x, u, s) (sym (same_ceil excess (units + share) some)) in
    let bound : c.max-bound.result ≡ lean_multiplier units excess share = omega (arith, count, c.max-bound.ensures) in
    let low : c.args.excess ≤ℤ pos (2 ^ 126) = grind (arith, ints) in
    let small = size_le c.args.excess (2 ^ 126) c.requires.excess low in
    (omega (arith, bound, small, c.if-bound.false), to_z_pos w128 _ (omega (arith, c.if-bound.false)) ∙ ap (λ (n : ℕ). pos n) bound)
