use Rattle.std.proofs.Common.{◌≡◌, ℕ, ◌≤◌, min, pos, rules, arith, ◌∙◌}
use Rattle.std.specs.Int.{w128}
use mir.Val.{SFits}
use Rattle.std.proofs.lemmas.Int.{to_z-of_z}
use Rattle.qp_model.specs.bounds.Errors.{errors_cost}
use Rattle.step_error.specs.ErrorSums.{sums_of}
use Rattle.step_error.proofs.SumFacts.{bounded, plan_small, read_size, within_of}
use Rattle.step_error.proofs.real_cost.cost_by.Goals as goal

pub errors_cost-requires-clause-first : goal.errors_cost-requires-clause-first
errors_cost-requires-clause-first c = within_of c.first_cost.ensures c.requires.cost

pub errors_cost-requires-clause-plan : goal.errors_cost-requires-clause-plan
errors_cost-requires-clause-plan c =
    less _ c.min-bound.ensures c.plan_bound.ensures (plan_small (sums_of c.args.e.now) c.args.gains.now.f (bounded c.args.e.now c.requires.sums)).0
  where
    less : {n x b t : ℕ} (y : ℕ) → n ≡ min x y → x ≡ b → b ≤ t → n ≤ t
    less {n} {x} {b} {t} y e h k = omega (arith, e, h, k)

pub returns : goal.returns
returns c =
    let f : SFits w128 c.errors_cost.result = search rules in
    let bound = c.min-bound.ensures ∙ (λ i. min (c.plan_bound.ensures i) (read_size _ _ c.ranges.plan c.unsigned_abs.ensures.value i)) in
    to_z-of_z w128 _ f ∙ c.errors_cost.ensures ∙ (λ i. pos (errors_cost (sums_of c.args.e.now) (c.first_cost.ensures i) (bound i) c.args.gains.now.f))

pub plan_bound-requires-clause-sums : goal.plan_bound-requires-clause-sums
plan_bound-requires-clause-sums c = c.requires.sums

pub first_cost-requires-clause-means : goal.first_cost-requires-clause-means
first_cost-requires-clause-means c = c.requires.means

pub first_cost-requires-clause-sums : goal.first_cost-requires-clause-sums
first_cost-requires-clause-sums c = c.requires.sums

pub first_cost-requires-clause-state : goal.first_cost-requires-clause-state
first_cost-requires-clause-state c = c.requires.state

pub first_cost-requires-clause-top : goal.first_cost-requires-clause-top
first_cost-requires-clause-top c = c.requires.top

pub first_cost-requires-clause-small : goal.first_cost-requires-clause-small
first_cost-requires-clause-small c = c.requires.small

pub first_cost-requires-clause-cost : goal.first_cost-requires-clause-cost
first_cost-requires-clause-cost c = c.requires.cost

pub errors_cost-requires-clause-sums : goal.errors_cost-requires-clause-sums
errors_cost-requires-clause-sums c = c.requires.sums
