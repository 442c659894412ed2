use Rattle.std.proofs.Common.{◌≡◌, ℤ, pos, length, get_or, unsigned_abs, rules, arith, ap, ◌∙◌}
use Rattle.std.specs.Int.{w128}
use mir.Val.{SFits}
use Rattle.std.proofs.lemmas.Int.{to_z-of_z}
use Rattle.integer_algebra.specs.Sums.{at}
use Rattle.scaled_run.specs.ScaledCorners.{over_unit}
use Rattle.condensed_form.proofs.Rooms.{read}
use Rattle.scaled_run.proofs.ListFacts.{one_pushed}
use Rattle.corner_margin.proofs.RoomFacts.{product_room}
use Rattle.corner_margin.proofs.corner.plan_of.Goals as goal

pub loop-number-preserved : goal.loop-number-preserved
loop-number-preserved c =
    let f : SFits w128 (get_or c.args.numerators.now c.loop-number.number-index (pos 0)) = search rules in
    one_pushed _ _ c.over_unit.result c.loop-number.number-index (λ j. over_unit c.args.unit (at c.args.numerators.now j) (unsigned_abs (read c.args.over))) c.in_ok-push.ensures.items
    (c.over_unit.ensures ∙ ap (λ (x : ℤ). over_unit c.args.unit x (unsigned_abs (read c.args.over))) (to_z-of_z w128 _ f))
    c.loop-number.invariant

pub over_unit-requires-clause-fits : goal.over_unit-requires-clause-fits
over_unit-requires-clause-fits c =
    let f : SFits w128 (get_or c.args.numerators.now c.loop-number.number-index (pos 0)) = search rules in
    rw (to_z-of_z w128 _ f) (product_room c.args.unit _ c.requires.unit (c.requires.small c.loop-number.number-index c.loop-number-test.true))

pub over_unit-requires-clause-divisor : goal.over_unit-requires-clause-divisor
over_unit-requires-clause-divisor c = rw (to_z-of_z w128 _ c.ranges.over) c.requires.divisor

pub over_unit-requires-clause-unit : goal.over_unit-requires-clause-unit
over_unit-requires-clause-unit c = omega (arith, c.requires.unit)

pub returns : goal.returns
returns c =
    let ended : c.loop-number.number-index ≡ length c.args.numerators.now = omega (arith, c.loop-number-test.false, c.loop-number.auto.number-index-end) in
    rw (← ended) (rw (to_z-of_z w128 _ c.ranges.over) at c.loop-number.invariant)
