use Rattle.std.proofs.Common.{◌^◌, refl}
use Rattle.std.specs.Int.{w128}
use Rattle.std.proofs.lemmas.Int.{to_z-of_z}
use Rattle.plan_excess.specs.Slopes.{excess_by}
use Rattle.plan_excess.proofs.RoomFacts.{none_of}
use Rattle.plan_excess.proofs.ExcessFacts.{small_of, some_equal, sums_within, excess_known, pull_within, size_within}
use Rattle.plan_excess.proofs.corners.corner_excess.Goals as goal

pub returns-in_err-sums_of-clause-room : goal.returns-in_err-sums_of-clause-room
returns-in_err-sums_of-clause-room c = λ d h are weights.
    none_of c.from_residual.result _ c.from_residual.ensures
    (λ s. let no = (c.in_err-sums_of.ensures.room d h are weights.grid).1 (sums_within d h c.args.corner.now c.args.weight_den c.args.input_floor weights c.requires.weight s) in cc)

pub returns-clause-value : goal.returns-clause-value
returns-clause-value c = λ d h are weights.
    some_equal c.excess.result _ _ (excess_known d h c.args.corner.now c.args.weight_den c.args.input_floor weights c.requires.weight c.in_ok-sums_of.field-0 (c.in_ok-sums_of.ensures.value d h are weights.grid))
    (rw (to_z-of_z w128 _ c.ranges.weight_den, to_z-of_z w128 _ c.ranges.input_floor) at c.excess.ensures.value)

pub returns-clause-room : goal.returns-clause-room
returns-clause-room c = λ d h are weights.
    let k = c.args.corner.now in
    let sums = c.in_ok-sums_of.ensures.value d h are weights.grid in
    let room = rw (to_z-of_z w128 _ c.ranges.weight_den) at c.excess.ensures.room in
    let value = some_equal c.excess.result _ _ (excess_known d h k c.args.weight_den c.args.input_floor weights c.requires.weight c.in_ok-sums_of.field-0 sums)
    (rw (to_z-of_z w128 _ c.ranges.weight_den, to_z-of_z w128 _ c.ranges.input_floor) at c.excess.ensures.value) in (
      λ s. size_within d h k c.args.weight_den c.args.input_floor weights c.requires.weight c.in_ok-sums_of.field-0 sums ((c.in_ok-sums_of.ensures.room d h are weights.grid).0 refl) (room.0 s)
          (small_of c.excess.result (excess_by d h k) (2 ^ 126) s value c.excess.ensures.small),
      λ z. room.1 (pull_within d h k c.args.weight_den c.args.input_floor weights c.requires.weight c.in_ok-sums_of.field-0 sums z),
    )
