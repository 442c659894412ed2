use Rattle.std.proofs.Common.{◌≡◌, ◌∙◌, ◌*◌, ◌^◌, ◌+◌, arith, pos, ap, unsigned_abs}
use Rattle.std.specs.Int.{w128}
use Rattle.std.proofs.lemmas.Int.{to_z-of_z, to_z_pos}
use Rattle.qp_model.specs.bounds.Choices.{step_count}
use Rattle.dual_bounds.proofs.NumberFacts.{quotient_is, quotient_small, positive, shifted}
use Rattle.dual_bounds.proofs.numbers.steps.Goals as goal

pub whole-requires-clause-fits : goal.whole-requires-clause-fits
whole-requires-clause-fits c =
    rw (to_z-of_z w128 _ c.ranges.r) (shifted (c.args.s + 41) 81 (2 ^ 44) c.args.r (omega (arith, c.requires.exponent)) c.requires.some c.requires.narrow)

pub returns-then-count-clause-value : goal.returns-then-count-clause-value
returns-then-count-clause-value c =
    let count : c.div_ceil-count.result ≡ step_count c.args.s (unsigned_abs c.args.r) (unsigned_abs c.args.step_target) =
    quotient_is _ _ _ _ c.args.step_target c.requires.target (rw (to_z-of_z w128 _ c.ranges.r) at c.whole.ensures.value)
    (rw (to_z-of_z w128 _ c.ranges.step_target) at c.unsigned_abs-target.ensures.value) c.div_ceil-count.ensures in
    λ h. omega (arith, count, h)

pub returns-then-count-clause-told : goal.returns-then-count-clause-told
returns-then-count-clause-told c =
    let count : c.div_ceil-count.result ≡ step_count c.args.s (unsigned_abs c.args.r) (unsigned_abs c.args.step_target) =
    quotient_is _ _ _ _ c.args.step_target c.requires.target (rw (to_z-of_z w128 _ c.ranges.r) at c.whole.ensures.value)
    (rw (to_z-of_z w128 _ c.ranges.step_target) at c.unsigned_abs-target.ensures.value) c.div_ceil-count.ensures in
    let small = quotient_small (2 ^ (c.args.s + 41) * unsigned_abs c.args.r) (unsigned_abs c.args.step_target) (positive c.args.step_target c.requires.target) in
    to_z_pos w128 _ (omega (arith, count, small, rw (to_z-of_z w128 _ c.ranges.r) at c.whole.ensures.value, c.whole.ensures.small)) ∙ ap (λ n. pos n) count

pub returns-clause-value : goal.returns-clause-value
returns-clause-value c =
    let count : c.div_ceil-count.result ≡ step_count c.args.s (unsigned_abs c.args.r) (unsigned_abs c.args.step_target) =
    quotient_is _ _ _ _ c.args.step_target c.requires.target (rw (to_z-of_z w128 _ c.ranges.r) at c.whole.ensures.value)
    (rw (to_z-of_z w128 _ c.ranges.step_target) at c.unsigned_abs-target.ensures.value) c.div_ceil-count.ensures in
    (omega (arith, count), count)
