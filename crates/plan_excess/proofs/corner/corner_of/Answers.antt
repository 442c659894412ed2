use Rattle.std.proofs.Common.{◌≡◌, ◌^◌, pos, ◌∙◌, rules}
use Rattle.std.specs.Int.{w128}
use mir.Val.{SFits}
use Rattle.std.proofs.lemmas.Int.{to_z-of_z}
use Rattle.integer_algebra.specs.Sums.{at}
use Rattle.qp_model.specs.problem.Parts.{design_of}
use Rattle.qp_model.specs.problem.Policy.{plans_of}
use Rattle.corner_margin.proofs.RoomFacts.{one_times, over_is}
use Rattle.corner_margin.proofs.SlackFacts.{grid_fits}
use Rattle.plan_excess.proofs.CornerFacts.{plan_made, plan_at, over_at}
use Rattle.plan_excess.proofs.corner.corner_of.Goals as goal

pub scaled-grid-requires-clause-fits : goal.scaled-grid-requires-clause-fits
scaled-grid-requires-clause-fits c = grid_fits c.args.parts.now.grid c.requires.design.grid

pub row-plan-requires : goal.row-plan-requires
row-plan-requires c = rw c.requires.plans.rows c.requires.corner

pub row-goal-requires : goal.row-goal-requires
row-goal-requires c = rw c.requires.references.rows c.requires.corner

pub returns : goal.returns
returns c =
    let d = design_of c.args.parts.now in
    let p = plans_of c.args.policy.now in
    let r = plans_of c.args.reference.now in
    let grid : c.scaled-grid.result ≡ pos (2 ^ c.args.parts.now.grid) = c.scaled-grid.ensures ∙ one_times (2 ^ c.args.parts.now.grid) in
    let fg : SFits w128 c.scaled-grid.result = search rules in
    let fq : SFits w128 c.index.result.now = search rules in
    let fo : SFits w128 c.index-2.result.now = search rules in
    let over : c.index.result.now ≡ at c.args.policy.now.dens.items c.args.c = over_is _ _ _ c.index.ensures c.requires.corner c.requires.plans.count in
    let under : c.index-2.result.now ≡ at c.args.reference.now.dens.items c.args.c = over_is _ _ _ c.index-2.ensures c.requires.corner c.requires.references.count in
    record {
      state = c.in_ok-state.ensures;
      grid = to_z-of_z w128 c.scaled-grid.result fg ∙ grid;
      plan = plan_made d p c.requires.plans c.args.c c.requires.corner c.row-plan.result.now _ c.row-plan.ensures.value c.row-plan.ensures.len (to_z-of_z w128 c.index.result.now fq ∙ over);
      reference = plan_made d r c.requires.references c.args.c c.requires.corner c.row-goal.result.now _ c.row-goal.ensures.value c.row-goal.ensures.len (to_z-of_z w128 c.index-2.result.now fo ∙ under);
      plan_is = plan_at d p c.requires.plans c.args.c c.requires.corner c.row-plan.result.now c.row-plan.ensures.value;
      over_is = over_at d p c.requires.plans c.args.c c.requires.corner _ (to_z-of_z w128 c.index.result.now fq ∙ over);
      reference_is = plan_at d r c.requires.references c.args.c c.requires.corner c.row-goal.result.now c.row-goal.ensures.value;
      under_is = over_at d r c.requires.references c.args.c c.requires.corner _ (to_z-of_z w128 c.index-2.result.now fo ∙ under);
    }
