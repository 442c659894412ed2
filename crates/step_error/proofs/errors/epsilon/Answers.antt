use Rattle.std.proofs.Common.{pos, rules, ◌∙◌}
use Rattle.std.specs.Int.{w128}
use mir.Val.{SFits}
use Rattle.std.proofs.lemmas.Int.{to_z-of_z}
use Rattle.qp_model.specs.bounds.Errors.{errors_cost}
use Rattle.step_error.specs.ErrorSums.{sums_of}
use Rattle.step_error.proofs.SumFacts.{bounded, plan_small, within_of}
use Rattle.step_error.proofs.errors.epsilon.Goals as goal

pub errors_cost-requires-clause-plan : goal.errors_cost-requires-clause-plan
errors_cost-requires-clause-plan c = within_of c.plan_bound.ensures (plan_small (sums_of c.args.e.now) c.args.f (bounded c.args.e.now c.requires.sums)).0

pub returns : goal.returns
returns c =
    let h : SFits w128 c.errors_cost.result = search rules in
    to_z-of_z w128 _ h ∙ c.errors_cost.ensures ∙ (λ i. pos (errors_cost (sums_of c.args.e.now) c.args.e.now.first (c.plan_bound.ensures i) c.args.f))
