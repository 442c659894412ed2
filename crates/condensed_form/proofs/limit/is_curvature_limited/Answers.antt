use Rattle.std.proofs.Common.{◌≡◌, ℕ, ◌^◌, ◌≤◌, FitsSigned, unsigned_abs, ap, ◌∙◌, ◌↔◌, IsTrue, rules, subst}
use Rattle.std.specs.Int.{w128}
use Rattle.std.proofs.lemmas.Int.{to_z-of_z}
use Rattle.qp_model.specs.form.Class.{rows_in, cost_row_in, form_in, row_quantity}
use Rattle.qp_model.specs.form.CurvatureSize.{covering_exponent, curvature_of}
use Rattle.qp_model.specs.problem.Design.{entries}
use Rattle.qp_model.specs.problem.Parts.{design_of}
use Rattle.condensed_form.proofs.LimitFacts.{own_row}
use Rattle.condensed_form.proofs.limit.is_curvature_limited.Goals as goal

pub returns : goal.returns
returns c = λ fine p f.
    let d = design_of p in
    let fits : FitsSigned w128 c.args.c.now.rows_size = search rules in
    let size : c.unsigned_abs.result ≡ rows_in fine d = c.unsigned_abs.ensures.value ∙ ap unsigned_abs (to_z-of_z w128 _ fits ∙ f.sizes.limit_size) in
    let row = ap (λ (n : ℕ). row_quantity fine n (entries d)) size ∙ own_row fine d in
    subst (λ (n : ℕ). IsTrue c.is_limited_with.result ↔ (curvature_of (covering_exponent d (form_in fine d)) d.limit_denominator (cost_row_in fine d) d.cost_denominator d.row_denominator n ≤ 2 ^ 126)) row
    (c.is_limited_with.ensures fine p f)
