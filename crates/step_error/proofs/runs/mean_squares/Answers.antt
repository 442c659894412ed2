use Rattle.std.proofs.Common.{rules, ◌≡◌, ℤ, pos, ◌≤ℤ◌, unsigned_abs, ℕ, ◌+◌, ◌*◌, ◌^◌, ◌<◌, length, arith, ap, ◌∙◌, refl, sym}
use Rattle.std.specs.Int.{w128}
use mir.Val.{SFits}
use Rattle.std.proofs.lemmas.Int.{ints}
use Rattle.integer_algebra.specs.Sizes.{amount}
use Rattle.integer_algebra.proofs.PowerLaws.{pow-two}
use Rattle.integer_algebra.proofs.SizeLaws.{amount_next, amount_more}
use Rattle.qp_model.specs.form.FineSizes.{is_fine}
use Rattle.qp_model.specs.problem.Parts.{design_of}
use Rattle.step_error.specs.ErrorSums.{farthest_entry, entry_error}
use Rattle.condensed_form.specs.Form.{held}
use Rattle.step_error.specs.CarriedErrors.{mean_error}
use Rattle.step_error.specs.RunSums.{error_with_mean}
use Rattle.step_error.proofs.SumFacts.{read_size, within_of}
use Rattle.step_error.proofs.Ceilings.{positive_by}
use Rattle.step_error.proofs.DesignSums.{hessian_pair, square, hessian_row_small, scale_one}
use Rattle.step_error.proofs.RunLaws.{one_of, square_of, part_of}
use Rattle.step_error.proofs.runs.mean_squares.Goals as goal

-- ---- what the call asks
pub gradient_error-requires-clause-small : goal.gradient_error-requires-clause-small
gradient_error-requires-clause-small c =
    hessian_row_small (is_fine (design_of c.args.parts.now)) c.args.parts.now c.args.c.now c.requires.form c.loop-j.j (omega (arith, c.loop-j-test.true, c.rows-j-end.ensures.count))

pub gradient_error-requires-clause-pair : goal.gradient_error-requires-clause-pair
gradient_error-requires-clause-pair c = hessian_pair (is_fine (design_of c.args.parts.now)) c.args.parts.now c.args.c.now c.requires.form

pub gradient_error-requires-clause-square : goal.gradient_error-requires-clause-square
gradient_error-requires-clause-square c = square (is_fine (design_of c.args.parts.now)) c.args.parts.now c.args.c.now c.requires.form

pub gradient_error-requires-clause-inside : goal.gradient_error-requires-clause-inside
gradient_error-requires-clause-inside c = omega (arith, c.loop-j-test.true, c.rows-j-end.ensures.count)

pub gradient_error-requires-clause-some : goal.gradient_error-requires-clause-some
gradient_error-requires-clause-some c =
    let f : SFits w128 c.args.c.now.hess_den = search rules in
    positive_by (read_size _ _ f c.unsigned_abs-scale.ensures.value) (scale_one (is_fine (design_of c.args.parts.now)) c.args.parts.now c.args.c.now c.requires.form)

pub gradient_error-requires-clause-scale : goal.gradient_error-requires-clause-scale
gradient_error-requires-clause-scale c =
    let f : SFits w128 c.args.c.now.hess_den = search rules in
    below c.args.c.now.hess_den _ f c.requires.form.denominators.hess_den (read_size _ _ f c.unsigned_abs-scale.ensures.value)
  where
    below : (z : ℤ) (n : ℕ) → SFits w128 z → pos 1 ≤ℤ z → n ≡ unsigned_abs z → n < 2 ^ 127
    below z n f h e = omega (arith, ints, f, h, e)

pub mean_error-requires-clause-form : goal.mean_error-requires-clause-form
mean_error-requires-clause-form c = c.requires.form

pub mean_error-requires-clause-inside : goal.mean_error-requires-clause-inside
mean_error-requires-clause-inside c = omega (arith, c.loop-j-test.true, c.rows-j-end.ensures.count)

pub mean_error-requires-clause-count : goal.mean_error-requires-clause-count
mean_error-requires-clause-count c = c.requires.count

pub mean_error-requires-clause-exponents : goal.mean_error-requires-clause-exponents
mean_error-requires-clause-exponents c = c.requires.exponents

pub mean_error-requires-clause-exponent : goal.mean_error-requires-clause-exponent
mean_error-requires-clause-exponent c = c.requires.exponent

pub loop-j-init : goal.loop-j-init
loop-j-init c = record { is = refl; small = omega arith }

-- ---- no sum, and the reason
pub returns-in_err-own : goal.returns-in_err-own
returns-in_err-own c =
    let a = c.args in
    let m = a.c.now in
    let f : SFits w128 m.hess_den = search rules in
    let scale = read_size _ _ f c.unsigned_abs-scale.ensures.value in
    let l : c.loop-j.j < length m.hess.rows = omega (arith, c.loop-j-test.true, c.rows-j-end.ensures.count) in
    rw c.from_residual.ensures (λ h. c.in_err-own.ensures (part_of (mean_error (held m) a.s a.exps.now c.loop-j.j) (λ i. entry_error (length m.hess.rows) (farthest_entry m.hess m.hess_rad) (scale i) a.combined c.loop-j.j)
    (one_of (length m.hess.rows) c.loop-j.j (error_with_mean m a.combined a.s a.exps.now) l h)))

pub returns-in_err-error : goal.returns-in_err-error
returns-in_err-error c =
    let a = c.args in
    let m = a.c.now in
    let f : SFits w128 m.hess_den = search rules in
    let scale = read_size _ _ f c.unsigned_abs-scale.ensures.value in
    let l : c.loop-j.j < length m.hess.rows = omega (arith, c.loop-j-test.true, c.rows-j-end.ensures.count) in
    let own = c.in_ok-own.ensures.1 ∙ (λ i. entry_error (length m.hess.rows) (farthest_entry m.hess m.hess_rad) (scale i) a.combined c.loop-j.j) in
    rw c.from_residual-in_err-error.ensures (λ h. c.in_err-error.ensures (within_of (λ i. own i + c.mean_error.ensures.value i)
    (one_of (length m.hess.rows) c.loop-j.j (error_with_mean m a.combined a.s a.exps.now) l h)))

pub returns-in_err-limited_product : goal.returns-in_err-limited_product
returns-in_err-limited_product c =
    let a = c.args in
    let m = a.c.now in
    let f : SFits w128 m.hess_den = search rules in
    let scale = read_size _ _ f c.unsigned_abs-scale.ensures.value in
    let l : c.loop-j.j < length m.hess.rows = omega (arith, c.loop-j-test.true, c.rows-j-end.ensures.count) in
    let own = c.in_ok-own.ensures.1 ∙ (λ i. entry_error (length m.hess.rows) (farthest_entry m.hess m.hess_rad) (scale i) a.combined c.loop-j.j) in
    let error = c.in_ok-error.ensures.1 ∙ (λ i. own i + c.mean_error.ensures.value i) in
    rw c.from_residual-in_err-limited_product.ensures (λ h. c.in_err-limited_product.ensures (within_of (λ i. error i * error i)
    (square_of (length m.hess.rows) c.loop-j.j (error_with_mean m a.combined a.s a.exps.now) l h)))

pub returns-in_err-squares : goal.returns-in_err-squares
returns-in_err-squares c =
    let a = c.args in
    let m = a.c.now in
    let f : SFits w128 m.hess_den = search rules in
    let scale = read_size _ _ f c.unsigned_abs-scale.ensures.value in
    let l : c.loop-j.j < length m.hess.rows = omega (arith, c.loop-j-test.true, c.rows-j-end.ensures.count) in
    let own = c.in_ok-own.ensures.1 ∙ (λ i. entry_error (length m.hess.rows) (farthest_entry m.hess m.hess_rad) (scale i) a.combined c.loop-j.j) in
    let error = c.in_ok-error.ensures.1 ∙ (λ i. own i + c.mean_error.ensures.value i) in
    let added = c.in_ok-limited_product.ensures.1 ∙ (λ i. error i * error i) ∙ sym (pow-two (error_with_mean m a.combined a.s a.exps.now c.loop-j.j)) in
    let next = amount_next c.loop-j.j (length m.hess.rows) (λ k. error_with_mean m a.combined a.s a.exps.now k ^ 2) l in
    rw c.from_residual-in_err-squares.ensures (λ h. c.in_err-squares.ensures (omega (arith, h, next, added, c.loop-j.invariant.is)))

-- ---- the sum
pub loop-j-preserved : goal.loop-j-preserved
loop-j-preserved c =
    let a = c.args in
    let m = a.c.now in
    let f : SFits w128 m.hess_den = search rules in
    let scale = read_size _ _ f c.unsigned_abs-scale.ensures.value in
    let own = c.in_ok-own.ensures.1 ∙ (λ i. entry_error (length m.hess.rows) (farthest_entry m.hess m.hess_rad) (scale i) a.combined c.loop-j.j) in
    let error = c.in_ok-error.ensures.1 ∙ (λ i. own i + c.mean_error.ensures.value i) in
    let added = c.in_ok-limited_product.ensures.1 ∙ (λ i. error i * error i) ∙ sym (pow-two (error_with_mean m a.combined a.s a.exps.now c.loop-j.j)) in
    let more = amount_more c.loop-j.j (λ k. error_with_mean m a.combined a.s a.exps.now k ^ 2) in
    record {
      is = omega (arith, c.in_ok-squares.ensures.1, c.loop-j.invariant.is, added, more);
      small = omega (arith, c.in_ok-squares.ensures.0, c.in_ok-squares.ensures.1);
    }

pub returns : goal.returns
returns c =
    let a = c.args in
    let m = a.c.now in
    let ended : c.loop-j.j ≡ length m.hess.rows = omega (arith, c.loop-j-test.false, c.loop-j.auto.j-end, c.rows-j-end.ensures.count) in
    let is = c.loop-j.invariant.is ∙ ap (λ (n : ℕ). amount n (λ k. error_with_mean m a.combined a.s a.exps.now k ^ 2)) ended in
    (rw (← is) c.loop-j.invariant.small, is)
