use Rattle.std.proofs.Common.{◌≡◌, ◌∙◌, ◌*◌, ◌^◌, ◌+◌, ◌<◌, ◌≤◌, ◌≤ℤ◌, ◌-◌, ap, ℕ, arith, pos, unsigned_abs, sym}
use Rattle.std.specs.Int.{w128}
use Rattle.std.proofs.lemmas.Int.{to_z-of_z, to_z_pos, ints}
use Rattle.integer_algebra.specs.Division.{ceil_div}
use Rattle.qp_model.specs.bounds.Choices.{lean_row_violation}
use Rattle.dual_bounds.proofs.NumberFacts.{same_ceil, positive, size_le, more_shifted}
use Rattle.dual_bounds.proofs.numbers.lean_row_violation.Goals as goal

pub whole-requires-clause-fits : goal.whole-requires-clause-fits
whole-requires-clause-fits c = rw (to_z-of_z w128 _ c.ranges.r) (more_shifted c.args.e (unsigned_abs c.args.r) c.requires.narrow)

pub returns : goal.returns
returns c =
    let r = unsigned_abs c.args.r in
    let eps = unsigned_abs c.args.eps in
    let target = unsigned_abs c.args.threshold in
    let stepped = 2 ^ (c.args.e + 40) * r in
    let t : c.unsigned_abs-target.result ≡ target = rw (to_z-of_z w128 _ c.ranges.threshold) at c.unsigned_abs-target.ensures.value in
    let own : c.whole.result ≡ stepped = rw (to_z-of_z w128 _ c.ranges.r) at c.whole.ensures.value in
    let error : c.unsigned_abs.result ≡ eps = rw (to_z-of_z w128 _ c.ranges.eps) at c.unsigned_abs.ensures.value in
    let bound : c.unsigned_abs-2.result ≡ r = rw (to_z-of_z w128 _ c.ranges.r) at c.unsigned_abs-2.ensures.value in
    let some : 0 < 2 * r = omega (arith, positive c.args.r c.requires.some) in
    let turns : c.div_ceil-of_steps.result ≡ ceil_div stepped c.args.k =
    c.div_ceil-of_steps.ensures ∙ rw (c.from.ensures, own) (sym (same_ceil stepped c.args.k c.requires.steps)) in
    let errors : c.div_ceil-of_errors.result ≡ ceil_div eps (2 * r) = c.div_ceil-of_errors.ensures ∙ rw (error, bound) (sym (same_ceil eps (2 * r) some)) in
    let half : c.div_ceil.result ≡ ceil_div target 2 = c.div_ceil.ensures ∙ rw t (sym (same_ceil target 2 (omega arith))) in
    let whole : c.min.result ≡ lean_row_violation c.args.e r c.args.k eps target = omega (arith, c.min.ensures, half, turns, errors, t) in
    let small : c.min.result ≤ target = omega (arith, whole) in
    let high : c.args.threshold ≤ℤ pos (2 ^ 127 - 1) = grind (arith, ints) in
    let fits : target ≤ 2 ^ 127 - 1 = size_le c.args.threshold (2 ^ 127 - 1) c.requires.target high in
    to_z_pos w128 _ (omega (arith, small, fits)) ∙ ap (λ (n : ℕ). pos n) whole
