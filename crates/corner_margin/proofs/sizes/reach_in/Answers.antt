use Rattle.qp_model.specs.problem.Parts.{design_of}
use Rattle.qp_model.specs.problem.Policy.{plans_of}
use Rattle.qp_model.specs.bounds.CornerSizes.{policy_magnitude}
use Rattle.qp_model.specs.form.Quantities.{prediction_size}
use Rattle.corner_margin.proofs.ClassFacts.{policy_some}
use Rattle.corner_margin.proofs.SizeFacts.{fine_made, exact_made, factor_within}
use Rattle.corner_margin.proofs.sizes.reach_in.Goals as goal

pub returns-then-fine : goal.returns-then-fine
returns-then-fine c = rw c.if-fine.true (fine_made _ (design_of c.args.parts.now) (plans_of c.args.policy.now) _ c.first_reach.ensures c.last_reach.ensures)

pub returns-in_err-prediction_size : goal.returns-in_err-prediction_size
returns-in_err-prediction_size c =
    let d = design_of c.args.parts.now in
    let s = plans_of c.args.policy.now in
    rw (c.if-fine.false, c.from_residual.ensures)
    (λ h. c.in_err-prediction_size.ensures (factor_within (policy_magnitude d s) (prediction_size d) (policy_some d s c.requires.plans) h))

pub returns-in_ok-prediction_size : goal.returns-in_ok-prediction_size
returns-in_ok-prediction_size c =
    rw c.if-fine.false (exact_made _ (design_of c.args.parts.now) (plans_of c.args.policy.now) _ _ c.policy_magnitude.ensures c.in_ok-prediction_size.ensures.1 c.limited_product.ensures)
