use Rattle.std.proofs.Common.{◌<◌, ◌^◌, rules, arith, sym}
use Rattle.std.specs.Int.{w128}
use mir.Val.{SFits}
use Rattle.std.proofs.lemmas.Int.{to_z-of_z}
use Rattle.qp_model.specs.problem.Parts.{design_of}
use Rattle.qp_model.specs.problem.Policy.{plans_of}
use Rattle.qp_model.specs.bounds.CornerSizes.{plan_reach}
use Rattle.qp_model.proofs.CornerFacts.{over_is}
use Rattle.corner_margin.proofs.ReachFacts.{plan_reach_is, reach_more, below, below_len, below_both, at_end, numerators_small, denominator_within, grid_some, grid_within, small_box, reach_first, reach_all}
use Rattle.corner_margin.proofs.sizes.first_reach.Goals as goal

pub loop-c-preserved : goal.loop-c-preserved
loop-c-preserved c =
    let d = design_of c.args.parts.now in
    let s = plans_of c.args.policy.now in
    let f = c.requires.plans in
    let inside : c.loop-c.c < 2 ^ c.args.parts.now.states = omega (arith, c.loop-c-test.true, c.rows-c-end.ensures.count, f.rows) in
    let fits : SFits w128 c.index.result.now = search rules in
    let over = over_is c.args.policy.now.dens.items c.loop-c.c (2 ^ c.args.parts.now.states) c.index.result.now c.unsigned_abs.result c.index.ensures inside (sym f.count)
    (rw (to_z-of_z w128 _ fits) at c.unsigned_abs.ensures.value) in
    reach_more (plan_reach d s) c.loop-c.c _ _ c.loop-c.most c.plan_reach-plan.result _ c.loop-c.invariant
    (plan_reach_is s d c.loop-c.c c.row.result.now c.unsigned_abs.result c.plan_reach-plan.result f inside c.row.ensures.value over c.plan_reach-plan.ensures)
    c.max-most-in-loop-c.ensures

pub ceil_brought-state-requires-clause-some : goal.ceil_brought-state-requires-clause-some
ceil_brought-state-requires-clause-some c = grid_some c.args.parts.now.grid c.requires.design.grid

pub ceil_brought-state-requires-clause-over : goal.ceil_brought-state-requires-clause-over
ceil_brought-state-requires-clause-over c = grid_within c.args.parts.now.grid c.requires.design.grid

pub ceil_brought-state-requires-clause-size : goal.ceil_brought-state-requires-clause-size
ceil_brought-state-requires-clause-size c = small_box _ c.box_magnitude.ensures.small

pub loop-c-init : goal.loop-c-init
loop-c-init c = reach_first c.args.parts.now.grid c.requires.design.grid _ c.box_magnitude.result c.ceil_brought-state.result c.max-most.result c.box_magnitude.ensures.value c.ceil_brought-state.ensures.value c.max-most.ensures

pub row-requires : goal.row-requires
row-requires c = below c.loop-c.c _ _ c.loop-c-test.true c.rows-c-end.ensures.count

pub index-requires : goal.index-requires
index-requires c = below_len c.args.policy.now.dens c.loop-c.c _ (below_both c.loop-c.c _ _ _ c.loop-c-test.true c.rows-c-end.ensures.count c.requires.plans.rows) c.requires.plans.count

pub plan_reach-plan-requires-clause-some : goal.plan_reach-plan-requires-clause-some
plan_reach-plan-requires-clause-some c =
    let fits : SFits w128 c.index.result.now = search rules in
    let over = over_is c.args.policy.now.dens.items c.loop-c.c (2 ^ c.args.parts.now.states) c.index.result.now c.unsigned_abs.result c.index.ensures
    (below_both c.loop-c.c _ _ _ c.loop-c-test.true c.rows-c-end.ensures.count c.requires.plans.rows) (sym c.requires.plans.count)
    (rw (to_z-of_z w128 _ fits) at c.unsigned_abs.ensures.value) in
    (denominator_within (design_of c.args.parts.now) (plans_of c.args.policy.now) c.loop-c.c c.unsigned_abs.result c.requires.plans (below_both c.loop-c.c _ _ _ c.loop-c-test.true c.rows-c-end.ensures.count c.requires.plans.rows) over).0

pub plan_reach-plan-requires-clause-over : goal.plan_reach-plan-requires-clause-over
plan_reach-plan-requires-clause-over c =
    let fits : SFits w128 c.index.result.now = search rules in
    let over = over_is c.args.policy.now.dens.items c.loop-c.c (2 ^ c.args.parts.now.states) c.index.result.now c.unsigned_abs.result c.index.ensures
    (below_both c.loop-c.c _ _ _ c.loop-c-test.true c.rows-c-end.ensures.count c.requires.plans.rows) (sym c.requires.plans.count)
    (rw (to_z-of_z w128 _ fits) at c.unsigned_abs.ensures.value) in
    (denominator_within (design_of c.args.parts.now) (plans_of c.args.policy.now) c.loop-c.c c.unsigned_abs.result c.requires.plans (below_both c.loop-c.c _ _ _ c.loop-c-test.true c.rows-c-end.ensures.count c.requires.plans.rows) over).1

pub plan_reach-plan-requires-clause-numerators : goal.plan_reach-plan-requires-clause-numerators
plan_reach-plan-requires-clause-numerators c =
    numerators_small (design_of c.args.parts.now) (plans_of c.args.policy.now) c.loop-c.c c.row.result.now c.requires.plans (below_both c.loop-c.c _ _ _ c.loop-c-test.true c.rows-c-end.ensures.count c.requires.plans.rows) c.row.ensures.value

pub returns : goal.returns
returns c =
    let d = design_of c.args.parts.now in
    reach_all (plan_reach d (plans_of c.args.policy.now)) c.loop-c.c _ _ _ c.loop-c.most c.loop-c.invariant
    (at_end c.loop-c.c _ _ (2 ^ c.args.parts.now.states) c.loop-c.auto.c-end c.loop-c-test.false c.rows-c-end.ensures.count c.requires.plans.rows)
