use Rattle.std.proofs.Common.{[]}
use Rattle.integer_algebra.specs.Sums.{none}
use Rattle.qp_model.specs.problem.Runs.{unit}
use Rattle.scaled_condense.proofs.ColumnFacts.{entries_fit}
use Rattle.scaled_condense.proofs.UnitFacts.{none_everywhere, unit_everywhere, plan_ready, over_small, made_of}
use Rattle.scaled_condense.proofs.units.run_of_plan.Goals as goal

pub new-requires : goal.new-requires
new-requires c = plan_ready c.args.parts.now c.args.over c.args.reach c.in_ok-start.start.items c.in_ok-plan.plan.items c.args.j c.requires.scale c.requires.entry c.in_ok-start.ensures c.in_ok-plan.ensures

pub returns : goal.returns
returns c =
    let p = c.args.parts.now in
    made_of c.args.over c.args.reach p none (unit c.args.j) (λ r. r.parts.now) (λ r. r.reach) (λ r. r.start.items) (λ r. r.plan.items) c.in_ok-start.start.items c.in_ok-plan.plan.items
    (none_everywhere c.args.over c.in_ok-start.start.items p.states c.in_ok-start.ensures) (unit_everywhere c.args.over c.in_ok-plan.plan.items _ c.args.j c.requires.entry c.in_ok-plan.ensures)
    c.new.result c.new.ensures.parts c.new.ensures.reach c.new.ensures.start c.new.ensures.plan

pub overflow_mul-parts : goal.overflow_mul-parts
overflow_mul-parts c = entries_fit c.args.parts.now c.requires.scale.design

pub unit_of-requires-clause-small : goal.unit_of-requires-clause-small
unit_of-requires-clause-small c = over_small c.args.parts.now c.args.over c.args.reach [] [] 0 c.requires.scale

pub zeros-requires : goal.zeros-requires
zeros-requires c = over_small c.args.parts.now c.args.over c.args.reach [] [] 0 c.requires.scale
