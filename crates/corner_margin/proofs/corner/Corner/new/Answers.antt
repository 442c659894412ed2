use Rattle.std.proofs.Common.{◌≡◌, pos, arith, rules, refl, sym, ◌∙◌}
use Rattle.std.specs.Int.{w128}
use mir.Val.{SFits}
use Rattle.std.proofs.lemmas.Int.{to_z-of_z}
use Rattle.integer_algebra.specs.Sums.{at}
use Rattle.qp_model.specs.problem.Parts.{design_of}
use Rattle.qp_model.specs.problem.Policy.{plans_of}
use Rattle.corner_margin.proofs.RoomFacts.{over_is, unit_small}
use Rattle.corner_margin.specs.Corner.{IsCorner}
use Rattle.corner_margin.proofs.RunFacts.{plan_held, ready}
use Rattle.corner_margin.proofs.ReachFacts.{below, below_len, numerators_small}
use Rattle.corner_margin.proofs.corner.Corner.new.Goals as goal

pub plan_of-requires-clause-divisor : goal.plan_of-requires-clause-divisor
plan_of-requires-clause-divisor c =
    let over : c.index.result.now ≡ at c.args.policy.now.dens.items c.args.number = over_is _ _ _ c.index.ensures c.requires.inside c.requires.policy.count in
    let f : SFits w128 c.index.result.now = search rules in
    rw (to_z-of_z w128 _ f, over) (c.requires.policy.denominators c.args.number (pos 0) (omega (arith, c.requires.policy.count, c.requires.inside))).low

pub new-requires : goal.new-requires
new-requires c =
    let over : c.index.result.now ≡ at c.args.policy.now.dens.items c.args.number = over_is _ _ _ c.index.ensures c.requires.inside c.requires.policy.count in
    let f : SFits w128 c.index.result.now = search rules in
    let made : IsCorner c.args.parts.now (plans_of c.args.policy.now) c.args.unit c.args.reach c.args.number c.in_ok-start.start.items c.in_ok-plan.plan.items = record {
      scale = c.requires;
      start_is = c.in_ok-start.ensures;
      plan_is = plan_held (design_of c.args.parts.now) (plans_of c.args.policy.now) c.args.unit c.args.number c.row.result.now _ _ c.requires.policy c.requires.inside c.row.ensures.value
          (to_z-of_z w128 _ f ∙ over) c.in_ok-plan.ensures;
    } in
    ready made

pub invariant_of-result : goal.invariant_of-result
invariant_of-result c =
    let over : c.index.result.now ≡ at c.args.policy.now.dens.items c.args.number = over_is _ _ _ c.index.ensures c.requires.inside c.requires.policy.count in
    let f : SFits w128 c.index.result.now = search rules in
    let made : IsCorner c.args.parts.now (plans_of c.args.policy.now) c.args.unit c.args.reach c.args.number c.in_ok-start.start.items c.in_ok-plan.plan.items = record {
      scale = c.requires;
      start_is = c.in_ok-start.ensures;
      plan_is = plan_held (design_of c.args.parts.now) (plans_of c.args.policy.now) c.args.unit c.args.number c.row.result.now _ _ c.requires.policy c.requires.inside c.row.ensures.value
          (to_z-of_z w128 _ f ∙ over) c.in_ok-plan.ensures;
    } in
    record { made = rw (c.in_ok-run.ensures.parts, c.in_ok-run.ensures.reach, c.in_ok-run.ensures.start, c.in_ok-run.ensures.plan) made }

pub row-requires : goal.row-requires
row-requires c = below c.args.number _ _ c.requires.inside (sym c.requires.policy.rows)

pub index-requires : goal.index-requires
index-requires c = below_len c.args.policy.now.dens c.args.number _ c.requires.inside c.requires.policy.count

pub plan_of-requires-clause-small : goal.plan_of-requires-clause-small
plan_of-requires-clause-small c = numerators_small (design_of c.args.parts.now) (plans_of c.args.policy.now) c.args.number c.row.result.now c.requires.policy c.requires.inside c.row.ensures.value

pub returns : goal.returns
returns c = (c.in_ok-run.ensures.parts, refl, refl, refl)

pub start_of-requires-clause-unit : goal.start_of-requires-clause-unit
start_of-requires-clause-unit c = unit_small c.requires

pub plan_of-requires-clause-unit : goal.plan_of-requires-clause-unit
plan_of-requires-clause-unit c = unit_small c.requires
