use Rattle.std.proofs.Common.{◌≡◌, ◌^◌, unsigned_abs, ap, sym, ◌∙◌}
use Rattle.std.proofs.Math.Nat.{pow-zero}
use Rattle.scaled_run.proofs.Rooms.{denominator_is}
use Rattle.scaled_condense.proofs.ExactFacts.{next_power, power_fits, last_power}
use Rattle.scaled_condense.proofs.exact.exact_unit.Goals as goal

pub loop-init : goal.loop-init
loop-init c = sym (pow-zero (unsigned_abs c.args.parts.now.plant_den))

pub overflow_mul-power : goal.overflow_mul-power
overflow_mul-power c = power_fits c.args.parts.now.plant_den _ _ c.loop.counter c.args.parts.now.stages c.requires.design.plant_den.low c.loop.invariant
    (denominator_is c.args.parts.now.plant_den _ c.requires.design.plant_den.low c.requires.design.plant_den.high c.unsigned_abs-den.ensures.value) c.loop-test.true c.requires.fits

pub loop-preserved : goal.loop-preserved
loop-preserved c = next_power c.args.parts.now.plant_den _ _ c.loop.counter c.loop.invariant
    (denominator_is c.args.parts.now.plant_den _ c.requires.design.plant_den.low c.requires.design.plant_den.high c.unsigned_abs-den.ensures.value)

pub returns : goal.returns
returns c = last_power (unsigned_abs c.args.parts.now.plant_den) c.loop.power c.loop.counter c.args.parts.now.stages c.loop.auto.counter-end c.loop-test.false c.loop.invariant
