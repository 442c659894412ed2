use Rattle.std.proofs.Common.{ap, ◌∙◌}
use Rattle.qp_model.specs.bounds.Errors.{residual_error}
use Rattle.step_error.specs.ErrorSums.{sums_of}
use Rattle.step_error.proofs.SumFacts.{bounded, plan_small, within_of}
use Rattle.step_error.proofs.errors.residual_error.Goals as goal

pub residual_of-requires-clause-plan : goal.residual_of-requires-clause-plan
residual_of-requires-clause-plan c = within_of c.plan_bound.ensures (plan_small (sums_of c.args.e.now) c.args.f (bounded c.args.e.now c.requires.sums)).0

pub returns : goal.returns
returns c = c.residual_of.ensures ∙ ap (residual_error (sums_of c.args.e.now)) c.plan_bound.ensures
