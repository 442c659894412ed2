use Rattle.std.proofs.Common.{ℕ, ◌^◌, ◌≤◌, subst}
use Rattle.std.specs.Option.{SomeIff}
use Rattle.qp_model.specs.problem.Parts.{design_of}
use Rattle.qp_model.specs.problem.Policy.{plans_of}
use Rattle.qp_model.specs.form.Quantities.{cost_width, weight_sum, prediction_size}
use Rattle.qp_model.specs.bounds.CornerSizes.{policy_magnitude}
use Rattle.qp_model.proofs.CornerFacts.{cost_parts, cost_value}
use Rattle.qp_model.proofs.corner_sizes.corner_cost_size.Goals as goal

pub returns-in_err-prediction_size : goal.returns-in_err-prediction_size
returns-in_err-prediction_size c = rw c.from_residual.ensures (λ h. c.in_err-prediction_size.ensures
    (cost_parts c.args.parts.now (plans_of c.args.policy.now) c.requires.design c.requires.plans h).2)

pub returns-in_err-response : goal.returns-in_err-response
returns-in_err-response c = rw c.from_residual-in_err-response.ensures (λ h. c.in_err-response.ensures
    (rw (c.cost_width.ensures, c.in_ok-prediction_size.ensures.1) (cost_parts c.args.parts.now (plans_of c.args.policy.now) c.requires.design c.requires.plans h).1))

pub returns-in_err-row : goal.returns-in_err-row
returns-in_err-row c = rw c.from_residual-in_err-row.ensures (λ h. c.in_err-row.ensures
    (rw (c.in_ok-response.ensures.1, c.cost_width.ensures, c.in_ok-prediction_size.ensures.1, c.policy_magnitude.ensures) (cost_parts c.args.parts.now (plans_of c.args.policy.now) c.requires.design c.requires.plans h).0))

pub returns : goal.returns
returns c =
    let d = design_of c.args.parts.now in
    let P : ℕ → Type 0 = λ z. SomeIff c.limited_area.result (z ≤ 2 ^ 126) z in
    subst P (cost_value _ (weight_sum d) _ (cost_width d) _ (prediction_size d) _ (policy_magnitude d (plans_of c.args.policy.now)) _ _
    c.weight_sum.ensures.sum c.cost_width.ensures c.in_ok-prediction_size.ensures.1 c.policy_magnitude.ensures c.in_ok-response.ensures.1 c.in_ok-row.ensures.1) c.limited_area.ensures
