use Rattle.std.proofs.Common.{◌≡◌, ◌∙◌, ◌*◌, ◌^◌, ◌+◌, arith, pos, unsigned_abs, sym}
use Rattle.std.specs.Int.{w128}
use Rattle.std.proofs.lemmas.Int.{to_z-of_z, to_z_pos}
use Rattle.integer_algebra.specs.Division.{ceil_div}
use Rattle.dual_bounds.proofs.NumberFacts.{quotient_is, quotient_small, same_ceil, positive, size_le, more_shifted, less_shifted}
use Rattle.dual_bounds.proofs.RowBounds.{step_sum}
use Rattle.dual_bounds.proofs.numbers.row_violation.Goals as goal

pub whole-requires-clause-fits : goal.whole-requires-clause-fits
whole-requires-clause-fits c =
    rw (to_z-of_z w128 _ c.ranges.r) (more_shifted c.args.si (unsigned_abs c.args.r) (less_shifted c.args.si c.args.s (unsigned_abs c.args.r) c.requires.row c.requires.narrow))

pub whole-requires-2-clause-fits : goal.whole-requires-2-clause-fits
whole-requires-2-clause-fits c = rw (to_z-of_z w128 _ c.ranges.r) (more_shifted c.args.s (unsigned_abs c.args.r) c.requires.narrow)

pub returns : goal.returns
returns c =
    let bound = unsigned_abs c.args.r in
    let own : c.whole.result ≡ 2 ^ (c.args.si + 40) * bound = rw (to_z-of_z w128 _ c.ranges.r) at c.whole.ensures.value in
    let greatest : c.whole-2.result ≡ 2 ^ (c.args.s + 40) * bound = rw (to_z-of_z w128 _ c.ranges.r) at c.whole-2.ensures.value in
    let both : c.whole.result + c.whole-2.result ≡ (2 ^ c.args.si + 2 ^ c.args.s) * 2 ^ 40 * bound =
    (λ i. own i + greatest i) ∙ step_sum c.args.si c.args.s bound in
    let turns : c.div_ceil-of_steps.result ≡ ceil_div ((2 ^ c.args.si + 2 ^ c.args.s) * 2 ^ 40 * bound) c.args.k =
    c.div_ceil-of_steps.ensures ∙ rw (c.from.ensures, both) (sym (same_ceil ((2 ^ c.args.si + 2 ^ c.args.s) * 2 ^ 40 * bound) c.args.k c.requires.steps)) in
    let errors : c.div_ceil-of_errors.result ≡ ceil_div (unsigned_abs c.args.eps) bound =
    quotient_is _ _ _ _ c.args.r c.requires.some (rw (to_z-of_z w128 _ c.ranges.eps) at c.unsigned_abs.ensures.value)
    (rw (to_z-of_z w128 _ c.ranges.r) at c.unsigned_abs-bound.ensures.value) c.div_ceil-of_errors.ensures in
    let few = quotient_small ((2 ^ c.args.si + 2 ^ c.args.s) * 2 ^ 40 * bound) c.args.k c.requires.steps in
    let small = quotient_small (unsigned_abs c.args.eps) bound (positive c.args.r c.requires.some) in
    let eps = size_le c.args.eps (2 ^ 114) c.requires.errors c.requires.small in
    to_z_pos w128 _ (omega (arith, turns, errors, few, small, both, c.whole.ensures.small, c.whole-2.ensures.small, eps)) ∙ (λ i. pos (turns i + errors i))
