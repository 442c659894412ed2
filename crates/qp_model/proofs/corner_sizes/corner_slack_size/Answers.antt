use Rattle.std.proofs.Common.{ℕ, ◌^◌, ◌≤◌, subst}
use Rattle.std.specs.Option.{SomeIff}
use Rattle.qp_model.specs.problem.Parts.{design_of}
use Rattle.qp_model.specs.problem.Policy.{plans_of}
use Rattle.qp_model.specs.form.Quantities.{limit_width, prediction_size}
use Rattle.qp_model.specs.bounds.CornerSizes.{policy_magnitude}
use Rattle.qp_model.proofs.CornerFacts.{slack_parts, slack_value}
use Rattle.qp_model.proofs.corner_sizes.corner_slack_size.Goals as goal

pub returns-in_err-width : goal.returns-in_err-width
returns-in_err-width c = rw c.from_residual.ensures (λ h. c.in_err-width.ensures
    (rw c.limit_width.ensures (slack_parts c.args.parts.now (plans_of c.args.policy.now) c.requires.design c.requires.plans h).1))

pub returns-in_err-prediction_size : goal.returns-in_err-prediction_size
returns-in_err-prediction_size c = rw c.from_residual-in_err-prediction_size.ensures (λ h. c.in_err-prediction_size.ensures
    (slack_parts c.args.parts.now (plans_of c.args.policy.now) c.requires.design c.requires.plans h).2)

pub returns-in_err-row : goal.returns-in_err-row
returns-in_err-row c = rw c.from_residual-in_err-row.ensures (λ h. c.in_err-row.ensures
    (rw (c.in_ok-width.ensures.1, c.limit_width.ensures, c.in_ok-prediction_size.ensures.1) (slack_parts c.args.parts.now (plans_of c.args.policy.now) c.requires.design c.requires.plans h).0))

pub returns : goal.returns
returns c =
    let d = design_of c.args.parts.now in
    let P : ℕ → Type 0 = λ z. SomeIff c.limited_product-3.result (z ≤ 2 ^ 126) z in
    subst P (slack_value _ (limit_width d) _ (prediction_size d) _ (policy_magnitude d (plans_of c.args.policy.now)) _ _
    c.limit_width.ensures c.in_ok-prediction_size.ensures.1 c.policy_magnitude.ensures c.in_ok-width.ensures.1 c.in_ok-row.ensures.1) c.limited_product-3.ensures
