use Rattle.std.proofs.Common.{pos, ap, ◌∙◌}
use Rattle.scaled_condense.specs.Lists.{mids, rads}
use Rattle.condensed_form.proofs.CostFacts.{power_room}
use Rattle.condensed_form.proofs.FormLaws.{cost_room, limit_room}
use Rattle.scaled_condense.proofs.ExactFacts.{exact_scale, exact_area, limit_reached, costs_moved, limits_moved}
use Rattle.scaled_condense.proofs.LimitFacts.{unit_fits, unit_is}
use Rattle.scaled_condense.proofs.exact.exact_form.Goals as goal

pub exact_unit-power-requires-clause-fits : goal.exact_unit-power-requires-clause-fits
exact_unit-power-requires-clause-fits c = power_room c.args.parts.now c.requires.design (cost_room c.args.parts.now c.requires.design c.requires.sizes.cost_room)

pub exact_unit-power-requires-clause-design : goal.exact_unit-power-requires-clause-design
exact_unit-power-requires-clause-design c = c.requires.design

pub limit_numbers-requires-clause-scale : goal.limit_numbers-requires-clause-scale
limit_numbers-requires-clause-scale c = rw c.exact_unit-power.ensures (exact_scale c.args.parts.now c.requires.design _ c.requires.reach c.requires.sizes.cost_room)

pub limit_numbers-requires-clause-fits : goal.limit_numbers-requires-clause-fits
limit_numbers-requires-clause-fits c = limit_reached c.args.parts.now c.requires.design _ c.requires.reach c.requires.sizes.limit_room

pub cost_numbers-requires-clause-scale : goal.cost_numbers-requires-clause-scale
cost_numbers-requires-clause-scale c = rw c.exact_unit-power.ensures (exact_scale c.args.parts.now c.requires.design _ c.requires.reach c.requires.sizes.cost_room)

pub cost_numbers-requires-clause-area : goal.cost_numbers-requires-clause-area
cost_numbers-requires-clause-area c = exact_area c.args.parts.now c.requires.design _ c.requires.reach c.requires.sizes.cost_room

pub overflow_cast-power : goal.overflow_cast-power
overflow_cast-power c = unit_fits c.args.parts.now c.exact_unit-power.result c.args.sizes.reach
    (rw c.exact_unit-power.ensures (exact_scale c.args.parts.now c.requires.design _ c.requires.reach c.requires.sizes.cost_room))

pub assembled-requires-clause-design : goal.assembled-requires-clause-design
assembled-requires-clause-design c = c.requires.design

pub assembled-requires-clause-power : goal.assembled-requires-clause-power
assembled-requires-clause-power c = unit_is c.args.parts.now c.exact_unit-power.result c.args.sizes.reach
    (rw c.exact_unit-power.ensures (exact_scale c.args.parts.now c.requires.design _ c.requires.reach c.requires.sizes.cost_room)) ∙ ap pos c.exact_unit-power.ensures

pub assembled-requires-clause-sizes : goal.assembled-requires-clause-sizes
assembled-requires-clause-sizes c = c.requires.sizes

pub assembled-requires-clause-costs : goal.assembled-requires-clause-costs
assembled-requires-clause-costs c = costs_moved c.exact_unit-power.ensures c.in_ok-costs.ensures

pub assembled-requires-clause-limits : goal.assembled-requires-clause-limits
assembled-requires-clause-limits c = limits_moved c.exact_unit-power.ensures c.in_ok-limits.ensures

pub assembled-requires-clause-mids : goal.assembled-requires-clause-mids
assembled-requires-clause-mids c = c.in_ok-off.ensures.mids ∙ ap mids c.deref.ensures.value

pub assembled-requires-clause-rads : goal.assembled-requires-clause-rads
assembled-requires-clause-rads c = c.in_ok-off.ensures.rads ∙ ap rads c.deref.ensures.value

pub returns : goal.returns
returns c = c.assembled.ensures
