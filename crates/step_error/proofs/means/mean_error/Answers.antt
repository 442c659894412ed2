use Rattle.std.proofs.Common.{rules, ◌≡◌, ℕ, ◌+◌, ◌*◌, ◌^◌, ◌≤◌, unsigned_abs, length, arith, ap, refl, ◌∙◌}
use Rattle.std.specs.Int.{w128}
use mir.Val.{SFits}
use Rattle.integer_algebra.specs.Division.{ceil_div}
use Rattle.integer_algebra.proofs.PowerLaws.{pow_positive}
use Rattle.qp_model.specs.form.FineSizes.{is_fine}
use Rattle.qp_model.specs.problem.Parts.{design_of}
use Rattle.step_error.specs.ErrorSums.{farthest_entry}
use Rattle.step_error.specs.CarriedErrors.{lowered_sum}
use Rattle.step_error.proofs.Ceilings.{quotient_is, ceil_small, ceil_twice, positive_by}
use Rattle.step_error.proofs.SumFacts.{read_size, shifted}
use Rattle.step_error.proofs.DesignSums.{plan_pair, rows_scale_one}
use Rattle.step_error.proofs.LoweredLaws.{in_columns, few_rows, column_small, lowered}
use Rattle.step_error.proofs.means.mean_error.Goals as goal
use Rattle.step_error.proofs.means.mean_error.Goals.{After-div_ceil}

pub column_sum-sum-requires-clause-pair : goal.column_sum-sum-requires-clause-pair
column_sum-sum-requires-clause-pair c = plan_pair (is_fine (design_of c.args.parts.now)) c.args.parts.now c.args.c.now c.requires.form

pub column_sum-sum-requires-clause-inside : goal.column_sum-sum-requires-clause-inside
column_sum-sum-requires-clause-inside c = in_columns (is_fine (design_of c.args.parts.now)) c.args.parts.now c.args.c.now c.requires.form c.args.exps.now c.requires.count c.args.j c.requires.inside

pub column_sum-sum-requires-clause-few : goal.column_sum-sum-requires-clause-few
column_sum-sum-requires-clause-few c = few_rows (is_fine (design_of c.args.parts.now)) c.args.parts.now c.args.c.now c.requires.form c.args.exps.now c.requires.count c.args.j c.requires.inside

pub column_sum-sum-requires-clause-small : goal.column_sum-sum-requires-clause-small
column_sum-sum-requires-clause-small c = column_small (is_fine (design_of c.args.parts.now)) c.args.parts.now c.args.c.now c.requires.form c.args.exps.now c.requires.count c.args.j c.requires.inside

pub returns-clause-value : goal.returns-clause-value
returns-clause-value c =
    let a = c.args in
    let form = a.c.now in
    let sum = c.column_sum-sum.result in
    let far = λ (i : ℕ). farthest_entry form.g form.g_rad i a.j in
    let f : SFits w128 form.row_den = search rules in
    let power = shifted a.s 40 c.requires.exponent (omega arith) in
    let some = pow_positive 2 a.s (omega arith) in
    let scale = rows_scale_one (is_fine (design_of a.parts.now)) a.parts.now form c.requires.form in
    let rest : c.div_ceil.result ≡ ceil_div sum.rest (2 ^ a.s) = quotient_is _ _ _ sum.rest (2 ^ a.s) some c.div_ceil.ensures refl power in
    let over : sum.whole + c.div_ceil.result ≡ ceil_div (lowered_sum (length a.exps.now) far a.s a.exps.now) (2 ^ a.s) =
    ap (λ (n : ℕ). sum.whole + n) rest ∙ lowered (2 ^ a.s) sum.whole sum.rest (lowered_sum (length a.exps.now) far a.s a.exps.now) some c.column_sum-sum.ensures.value in
    quotient_is _ _ _ (ceil_div (lowered_sum (length a.exps.now) far a.s a.exps.now) (2 ^ a.s)) (unsigned_abs form.row_den) scale c.div_ceil-2.ensures over
    (read_size _ _ f c.unsigned_abs.ensures.value)
    ∙ ceil_twice (lowered_sum (length a.exps.now) far a.s a.exps.now) (2 ^ a.s) (unsigned_abs form.row_den) some scale
    ∙ ap (λ (n : ℕ). ceil_div (lowered_sum n far a.s a.exps.now) (2 ^ a.s * unsigned_abs form.row_den)) c.requires.count

pub column_sum-sum-requires-clause-count : goal.column_sum-sum-requires-clause-count
column_sum-sum-requires-clause-count c = c.requires.count

pub column_sum-sum-requires-clause-exponents : goal.column_sum-sum-requires-clause-exponents
column_sum-sum-requires-clause-exponents c = c.requires.exponents

pub column_sum-sum-requires-clause-exponent : goal.column_sum-sum-requires-clause-exponent
column_sum-sum-requires-clause-exponent c = c.requires.exponent

-- ---- the sizes
rest_is : (c : After-div_ceil) → c.div_ceil.result ≡ ceil_div c.column_sum-sum.result.rest (2 ^ c.args.s)
rest_is c =
    quotient_is _ _ _ c.column_sum-sum.result.rest (2 ^ c.args.s) (pow_positive 2 c.args.s (omega arith)) c.div_ceil.ensures refl (shifted c.args.s 40 c.requires.exponent (omega arith))

rest_small : (c : After-div_ceil) → c.div_ceil.result ≤ 2 ^ 49
rest_small c = through (rest_is c) (ceil_small c.column_sum-sum.result.rest (2 ^ c.args.s) (pow_positive 2 c.args.s (omega arith))) c.column_sum-sum.ensures.rest
  where
    through : {q x y : ℕ} → q ≡ x → x ≤ y → y ≤ 2 ^ 49 → q ≤ 2 ^ 49
    through {q} {x} {y} e h k = omega (arith, e, h, k)

pub overflow_shl-s : goal.overflow_shl-s
overflow_shl-s c = omega (arith, c.requires.exponent)

pub div_ceil-requires : goal.div_ceil-requires
div_ceil-requires c = rw (shifted c.args.s 40 c.requires.exponent (omega arith)) (pow_positive 2 c.args.s (omega arith))

pub overflow_add-over : goal.overflow_add-over
overflow_add-over c = omega (arith, c.column_sum-sum.ensures.whole, rest_small (goal.at.overflow_add-over c).After-div_ceil)

pub div_ceil-requires-2 : goal.div_ceil-requires-2
div_ceil-requires-2 c =
    let f : SFits w128 c.args.c.now.row_den = search rules in
    positive_by (read_size _ _ f c.unsigned_abs.ensures.value) (rows_scale_one (is_fine (design_of c.args.parts.now)) c.args.parts.now c.args.c.now c.requires.form)

pub returns-clause-small : goal.returns-clause-small
returns-clause-small c =
    let f : SFits w128 c.args.c.now.row_den = search rules in
    let over = c.column_sum-sum.result.whole + c.div_ceil.result in
    let some = rows_scale_one (is_fine (design_of c.args.parts.now)) c.args.parts.now c.args.c.now c.requires.form in
    let is = quotient_is _ _ _ over (unsigned_abs c.args.c.now.row_den) some c.div_ceil-2.ensures refl (read_size _ _ f c.unsigned_abs.ensures.value) in
    close is (ceil_small over (unsigned_abs c.args.c.now.row_den) some) c.column_sum-sum.ensures.whole (rest_small (goal.at.returns-clause-small c).After-div_ceil)
  where
    close : {q x w r : ℕ} → q ≡ x → x ≤ w + r → w ≤ 2 ^ 126 → r ≤ 2 ^ 49 → q ≤ 2 ^ 127
    close {q} {x} {w} {r} e h k l = omega (arith, e, h, k, l)
