use Rattle.qp_model.specs.declared.quantity.Quantity.TheVariants.{Prediction}
use Rattle.qp_model.specs.problem.Parts.{design_of}
use Rattle.design_engine.proofs.AnswerLaws.{absent_of_error, ok_of_error}
use Rattle.design_engine.proofs.RefusalFacts.{refused_by, condense_refused, curvature_refused, within_limit, condensed_within}
use Rattle.design_engine.proofs.aimed.stepped_form.Goals as goal

pub returns-in_err-condensed-clause-refused : goal.returns-in_err-condensed-clause-refused
returns-in_err-condensed-clause-refused c =
    refused_by c.from_residual.result _ _ c.from_residual.ensures.1
    (condense_refused (design_of c.args.design.now) c.condense.result _ c.in_err-condensed.was c.condense.ensures.wide)

pub returns-in-Err-clause-refused : goal.returns-in-Err-clause-refused
returns-in-Err-clause-refused c =
    let form = c.in_ok-condensed.ensures.form in
    curvature_refused (design_of c.args.design.now) (condensed_within _ Prediction _ (c.in_ok-condensed.ensures.every_refusal Prediction))
    form.sizes.cost_room form.sizes.limit_room _ (c.in-Err.ensures.refused _ form) _ c.from.ensures

pub returns-in-Ok-clause-passes : goal.returns-in-Ok-clause-passes
returns-in-Ok-clause-passes c =
    let form = c.in_ok-condensed.ensures.form in
    record {
      prediction = condensed_within _ Prediction _ (c.in_ok-condensed.ensures.every_refusal Prediction);
      hessian = form.sizes.cost_room;
      rows = form.sizes.limit_room;
      curvature = within_limit _ _ _ (c.in-Ok.ensures.wide _ form);
    }

pub returns-in-Ok-clause-stepped : goal.returns-in-Ok-clause-stepped
returns-in-Ok-clause-stepped c = record {
  form = c.in_ok-condensed.ensures.form;
  exponent = λ p form. record {
    plain = c.in-Ok.exponents.s1;
    is_plain = c.in-Ok.ensures.plain p form;
    limit = c.in-Ok.ensures.order.1;
    is_step = c.in-Ok.ensures.certified p form;
  };
  curved = (c.in-Ok.ensures.exponents _ c.in_ok-condensed.ensures.form).0;
}

pub returns-in_err-condensed-clause-passes : goal.returns-in_err-condensed-clause-passes
returns-in_err-condensed-clause-passes c = ok_of_error c.from_residual.result _ c.from_residual.ensures.0

pub returns-in_err-condensed-clause-stepped : goal.returns-in_err-condensed-clause-stepped
returns-in_err-condensed-clause-stepped c = absent_of_error c.from_residual.result _ c.from_residual.ensures.0
