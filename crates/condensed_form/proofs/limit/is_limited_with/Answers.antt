use Rattle.std.proofs.Common.{◌≡◌, ℕ, ◌^◌, ◌≤◌, Bool, ℤ, unsigned_abs, arith, sym, ◌∙◌, ap₂}
use Rattle.std.proofs.lemmas.Int.{ints}
use Rattle.qp_model.specs.problem.Range.{IsDenominator}
use Rattle.qp_model.specs.form.Class.{form_in, row_quantity, curvature_with}
use Rattle.qp_model.specs.form.CurvatureSize.{covering_exponent}
use Rattle.qp_model.specs.problem.Design.{entries}
use Rattle.qp_model.specs.problem.Parts.{design_of}
use Rattle.condensed_form.proofs.LeastLaws.{exponent_is, few}
use Rattle.condensed_form.proofs.LimitFacts.{limited_by}
use Rattle.condensed_form.proofs.limit.is_limited_with.Goals as goal

-- a denominator's absolute value
narrow : (z : ℤ) (n : ℕ) → IsDenominator z → n ≡ unsigned_abs z → n ≤ 2 ^ 20
narrow z n h e = omega (arith, ints, h.low, h.high, e)

pub curvature_of-size-requires-clause-limit_den : goal.curvature_of-size-requires-clause-limit_den
curvature_of-size-requires-clause-limit_den c =
    narrow c.requires.parts.limit_den _ c.requires.form.design.limit_den (c.scales_of-scales.ensures c.requires.fine c.requires.parts c.requires.form).limit_den

pub curvature_of-size-requires-clause-weight_den : goal.curvature_of-size-requires-clause-weight_den
curvature_of-size-requires-clause-weight_den c =
    narrow c.requires.parts.cost_den _ c.requires.form.design.cost_den (c.scales_of-scales.ensures c.requires.fine c.requires.parts c.requires.form).weight_den

pub curvature_of-size-requires-clause-cost_row_den : goal.curvature_of-size-requires-clause-cost_row_den
curvature_of-size-requires-clause-cost_row_den c =
    narrow c.requires.parts.row_den _ c.requires.form.design.row_den (c.scales_of-scales.ensures c.requires.fine c.requires.parts c.requires.form).cost_row_den

pub returns : goal.returns
returns c = λ fine p f.
    let d = design_of p in
    let s = c.scales_of-scales.ensures fine p f in
    let e : c.unwrap_or-exponent.result ≡ covering_exponent d (form_in fine d) =
    c.unwrap_or-exponent.ensures ∙ sym (exponent_is d (form_in fine d) c.squares_exponent.result (c.squares_exponent.ensures fine p f)) in
    let row : c.row_quantity.result ≡ row_quantity fine c.args.size (entries d) =
    c.row_quantity.ensures ∙ ap₂ (λ (b : Bool) (n : ℕ). row_quantity b c.args.size n) f.class (c.rows.ensures.count ∙ f.shapes.hess.rows) in
    limited_by c.curvature_of-size.result c.is_some.result (curvature_with fine d c.args.size) c.is_some.ensures
    (rw (e, s.limit_den, s.cost_row, s.weight_den, s.cost_row_den, row) at c.curvature_of-size.ensures)

pub squares_exponent-requires : goal.squares_exponent-requires
squares_exponent-requires c = c.requires

pub scales_of-scales-requires : goal.scales_of-scales-requires
scales_of-scales-requires c = c.requires

pub curvature_of-size-requires-clause-exponent : goal.curvature_of-size-requires-clause-exponent
curvature_of-size-requires-clause-exponent c =
    rw c.unwrap_or-exponent.ensures (few _ c.squares_exponent.result (c.squares_exponent.ensures c.requires.fine c.requires.parts c.requires.form))
