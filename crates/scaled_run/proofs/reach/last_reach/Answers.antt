use Rattle.qp_model.specs.problem.Parts.{design_of}
use Rattle.condensed_form.proofs.StateFacts.{denominator_positive}
use Rattle.scaled_run.proofs.Rooms.{growth_from, denominator_is, den_positive, brought_fits, reach_fits, next_reach, last_is, last_room, last_small}
use Rattle.scaled_run.proofs.reach.last_reach.Goals as goal

pub returns-in_err-reach : goal.returns-in_err-reach
returns-in_err-reach c = rw c.from_residual.ensures (λ h. c.in_err-reach.ensures (rw (c.growth-growth.ensures, c.loop.invariant)
    (growth_from c.args.slack (design_of c.args.parts.now) (denominator_positive c.args.parts.now.plant_den c.requires.design.plant_den.low) c.args.first c.loop.counter _ c.loop-test.true h)))

pub growth-growth-requires : goal.growth-growth-requires
growth-growth-requires c = c.requires.design

pub overflow_sub-reach : goal.overflow_sub-reach
overflow_sub-reach c = den_positive c.args.parts.now.plant_den 0 0 _ c.args.slack c.requires.slack (denominator_is c.args.parts.now.plant_den _ c.requires.design.plant_den.low c.requires.design.plant_den.high c.unsigned_abs-den.ensures.value) c.requires.design.plant_den.low c.requires.design.plant_den.high

pub nonzero_div-reach : goal.nonzero_div-reach
nonzero_div-reach c = den_positive c.args.parts.now.plant_den 0 0 _ c.args.slack c.requires.slack (denominator_is c.args.parts.now.plant_den _ c.requires.design.plant_den.low c.requires.design.plant_den.high c.unsigned_abs-den.ensures.value) c.requires.design.plant_den.low c.requires.design.plant_den.high

pub overflow_add-reach : goal.overflow_add-reach
overflow_add-reach c = brought_fits c.args.parts.now.plant_den c.in_ok-reach.field-0 _ _ c.args.slack c.requires.slack
    (denominator_is c.args.parts.now.plant_den _ c.requires.design.plant_den.low c.requires.design.plant_den.high c.unsigned_abs-den.ensures.value) c.requires.design.plant_den.low c.requires.design.plant_den.high c.in_ok-reach.ensures.1 c.in_ok-reach.ensures.0

pub overflow_add-reach-in-loop : goal.overflow_add-reach-in-loop
overflow_add-reach-in-loop c = reach_fits c.args.parts.now.plant_den c.in_ok-reach.field-0 _ _ c.args.slack c.requires.slack
    (denominator_is c.args.parts.now.plant_den _ c.requires.design.plant_den.low c.requires.design.plant_den.high c.unsigned_abs-den.ensures.value) c.requires.design.plant_den.low c.requires.design.plant_den.high c.in_ok-reach.ensures.1 c.in_ok-reach.ensures.0

pub loop-preserved : goal.loop-preserved
loop-preserved c =
    next_reach c.args.slack (design_of c.args.parts.now) c.args.first c.growth-growth.result c.loop.reach c.loop.counter c.growth-growth.ensures c.loop.invariant c.in_ok-reach.field-0 c.unsigned_abs-den.result c.in_ok-reach.ensures.1
    (denominator_is c.args.parts.now.plant_den _ c.requires.design.plant_den.low c.requires.design.plant_den.high c.unsigned_abs-den.ensures.value)

pub returns-in_err-limited_product : goal.returns-in_err-limited_product
returns-in_err-limited_product c =
    rw c.from_residual-in_err-limited_product.ensures (λ h. c.in_err-limited_product.ensures
    (last_room c.args.slack (design_of c.args.parts.now) c.args.first c.growth-growth.result c.loop.reach c.loop.counter c.growth-growth.ensures c.loop.invariant c.loop.auto.counter-end c.loop-test.false _ h))

pub returns : goal.returns
returns c = (
  last_small c.args.slack (design_of c.args.parts.now) c.args.first c.growth-growth.result c.loop.reach c.loop.counter c.growth-growth.ensures c.loop.invariant c.loop.auto.counter-end c.loop-test.false _ c.in_ok-limited_product.ensures.0,
  last_is c.args.slack (design_of c.args.parts.now) c.args.first c.growth-growth.result c.loop.reach c.loop.counter c.growth-growth.ensures c.loop.invariant c.loop.auto.counter-end c.loop-test.false,
)
