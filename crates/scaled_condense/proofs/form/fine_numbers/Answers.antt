use Rattle.std.proofs.Common.{Some, None, Err, ℕ, ◌^◌, ap, ◌∙◌, lt_of_not-le}
use Rattle.std.proofs.lemmas.Result.{err_from_is_err_and}
use Rattle.qp_model.specs.problem.Parts.{design_of}
use Rattle.scaled_run.proofs.SizeLaws.{reach_told}
use Rattle.scaled_condense.proofs.FaultFacts.{same_fault, fault_of, made_apart, none_made, first_prediction, first_hessian, first_rows}
use Rattle.scaled_condense.proofs.form.fine_numbers.Goals as goal

pub returns-in_default-clause-wide : goal.returns-in_default-clause-wide
returns-in_default-clause-wide c = λ q e. first_prediction (design_of c.args.parts.now) e (lt_of_not-le (reach_told None (design_of c.args.parts.now) (2 ^ 40) c.in_default.ensures))

pub returns-in_err-costs-clause-costs : goal.returns-in_err-costs-clause-costs
returns-in_err-costs-clause-costs c = none_made _ (err_from_is_err_and c.from_residual.result c.from_residual.ensures.1).1

pub returns-in_err-costs-clause-limits : goal.returns-in_err-costs-clause-limits
returns-in_err-costs-clause-limits c = none_made _ (err_from_is_err_and c.from_residual.result c.from_residual.ensures.1).1

pub returns-in_err-costs-clause-wide : goal.returns-in_err-costs-clause-wide
returns-in_err-costs-clause-wide c = λ q e.
    let given = err_from_is_err_and c.from_residual.result c.from_residual.ensures.1 in
    let wide = c.fine_costs.ensures.wide q (c.in_err-costs.was ∙ ap Err (same_fault (given.1 ∙ ap Err given.2) e)) in
    first_hessian (design_of c.args.parts.now) wide.0 (reach_told (Some c.in-Some.reach) (design_of c.args.parts.now) (2 ^ 40) c.in-Some.ensures).0 wide.1

pub returns-in-Err-clause-wide : goal.returns-in-Err-clause-wide
returns-in-Err-clause-wide c = λ q e.
    let wide = c.fine_limits.ensures.wide q (c.in-Err.is ∙ ap Err (fault_of e)) in
    first_rows (design_of c.args.parts.now) wide.0 (reach_told (Some c.in-Some.reach) (design_of c.args.parts.now) (2 ^ 40) c.in-Some.ensures).0 c.in_ok-costs.ensures.costs.room wide.1

pub returns-in-Ok-clause-costs : goal.returns-in-Ok-clause-costs
returns-in-Ok-clause-costs c = c.in_ok-costs.ensures.costs

pub returns-in-Ok-clause-limits : goal.returns-in-Ok-clause-limits
returns-in-Ok-clause-limits c = c.in-Ok.ensures.limits

pub returns-in-Ok-clause-wide : goal.returns-in-Ok-clause-wide
returns-in-Ok-clause-wide c = λ q e. absurd (made_apart e)

pub fine_costs-requires-clause-reach : goal.fine_costs-requires-clause-reach
fine_costs-requires-clause-reach c = (reach_told (Some c.in-Some.reach) (design_of c.args.parts.now) (2 ^ 40) c.in-Some.ensures).1

pub fine_costs-requires-clause-prediction : goal.fine_costs-requires-clause-prediction
fine_costs-requires-clause-prediction c = (reach_told (Some c.in-Some.reach) (design_of c.args.parts.now) (2 ^ 40) c.in-Some.ensures).0

pub fine_limits-requires-clause-reach : goal.fine_limits-requires-clause-reach
fine_limits-requires-clause-reach c = (reach_told (Some c.in-Some.reach) (design_of c.args.parts.now) (2 ^ 40) c.in-Some.ensures).1

pub fine_limits-requires-clause-prediction : goal.fine_limits-requires-clause-prediction
fine_limits-requires-clause-prediction c = (reach_told (Some c.in-Some.reach) (design_of c.args.parts.now) (2 ^ 40) c.in-Some.ensures).0

pub returns-in_default-clause-prediction : goal.returns-in_default-clause-prediction
returns-in_default-clause-prediction c = tt

pub returns-in-Ok-clause-prediction : goal.returns-in-Ok-clause-prediction
returns-in-Ok-clause-prediction c = (reach_told (Some c.in-Some.reach) (design_of c.args.parts.now) (2 ^ 40) c.in-Some.ensures).0
