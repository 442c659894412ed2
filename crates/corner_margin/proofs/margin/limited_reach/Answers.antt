use Rattle.std.proofs.Common.{refl}
use Rattle.qp_model.specs.declared.quantity.Quantity.TheVariants.{Prediction, CornerSlack, CornerCost}
use Rattle.qp_model.specs.problem.Parts.{design_of}
use Rattle.qp_model.specs.problem.Policy.{plans_of}
use Rattle.corner_margin.specs.Corners.{HasCornerRoomIn}
use Rattle.corner_margin.proofs.FaultFacts.{refused_first, none_refused, quantity_above, outside}
use Rattle.corner_margin.proofs.SizeFacts.{cost_limited}
use Rattle.corner_margin.proofs.margin.limited_reach.Goals as goal

pub returns-then-not-is_prediction_limited-clause-wide : goal.returns-then-not-is_prediction_limited-clause-wide
returns-then-not-is_prediction_limited-clause-wide c =
    refused_first c.args.fine (design_of c.args.parts.now) (plans_of c.args.policy.now) Prediction refl
    (quantity_above _ _ c.is_prediction_limited.ensures c.if-not-is_prediction_limited.true)

pub returns-in_default-clause-wide : goal.returns-in_default-clause-wide
returns-in_default-clause-wide c =
    refused_first c.args.fine (design_of c.args.parts.now) (plans_of c.args.policy.now) CornerSlack refl
    (c.is_prediction_limited.ensures.0 c.if-not-is_prediction_limited.false, outside _ c.in_default.ensures)

pub returns-then-not-is_cost_limited-clause-wide : goal.returns-then-not-is_cost_limited-clause-wide
returns-then-not-is_cost_limited-clause-wide c =
    let d = design_of c.args.parts.now in
    let s = plans_of c.args.policy.now in
    refused_first c.args.fine d s CornerCost refl (
      c.is_prediction_limited.ensures.0 c.if-not-is_prediction_limited.false,
      (c.in-Some.ensures.0, quantity_above _ _ (cost_limited _ c.args.fine d s _ c.in-Some.ensures.1 c.is_cost_limited.ensures) c.if-not-is_cost_limited.true),
    )

pub returns-clause-room : goal.returns-clause-room
returns-clause-room c = record {
  prediction = c.is_prediction_limited.ensures.0 c.if-not-is_prediction_limited.false;
  slack = c.in-Some.ensures.0;
  cost = (cost_limited _ c.args.fine (design_of c.args.parts.now) (plans_of c.args.policy.now) _ c.in-Some.ensures.1 c.is_cost_limited.ensures).0 c.if-not-is_cost_limited.false;
}

pub returns-clause-wide : goal.returns-clause-wide
returns-clause-wide c =
    let d = design_of c.args.parts.now in
    let s = plans_of c.args.policy.now in
    let room : HasCornerRoomIn c.args.fine d s = record {
      prediction = c.is_prediction_limited.ensures.0 c.if-not-is_prediction_limited.false;
      slack = c.in-Some.ensures.0;
      cost = (cost_limited _ c.args.fine d s _ c.in-Some.ensures.1 c.is_cost_limited.ensures).0 c.if-not-is_cost_limited.false;
    } in
    none_refused c.args.fine d s refl room
