use Rattle.std.proofs.Common.{rules, FitsSigned, ◌≡◌, ◌^◌, pos, ◌-ℤ◌, ◌*ℤ◌, unsigned_abs}
use Rattle.std.specs.Int.{w128}
use Rattle.std.proofs.lemmas.Int.{to_z-of_z}
use Rattle.condensed_form.proofs.DenominatorFacts.{natural, least_is}
use Rattle.scaled_condense.proofs.FineFacts.{weight_room}
use Rattle.scaled_condense.proofs.FloorFacts.{radius_room, bend_small, least_natural, floor_fits, floor_value}
use Rattle.scaled_condense.proofs.scales.bend_floor.Goals as goal

pub bend-requires-clause-weight : goal.bend-requires-clause-weight
bend-requires-clause-weight c =
    let p = c.args.parts.now in
    let f : FitsSigned w128 c.brought_weight.result = search rules in
    let value : c.brought_weight.result ≡ pos (2 ^ 40) *ℤ (c.args.input_floor *ℤ pos (unsigned_abs p.row_den ^ 2)) = rw (to_z-of_z w128 _ c.ranges.input_floor) at c.brought_weight.ensures.value in
    rw (to_z-of_z w128 _ f) (bend_small p c.requires.design c.args.input_floor c.requires.least c.requires.room c.brought_weight.result value)

pub bend-requires-clause-radius : goal.bend-requires-clause-radius
bend-requires-clause-radius c = rw c.requires.radius (radius_room c.args.parts.now c.requires.room)

pub overflow_mul-result : goal.overflow_mul-result
overflow_mul-result c =
    let f : FitsSigned w128 c.bend.result = search rules in
    floor_fits c.args.parts.now.limit_den c.bend.result c.requires.design.limit_den f c.bend.ensures.small

pub returns : goal.returns
returns c =
    let p = c.args.parts.now in
    let h = c.requires.design in
    let f : FitsSigned w128 c.brought_weight.result = search rules in
    let g : FitsSigned w128 c.bend.result = search rules in
    let value : c.brought_weight.result ≡ pos (2 ^ 40) *ℤ (c.args.input_floor *ℤ pos (unsigned_abs p.row_den ^ 2)) = rw (to_z-of_z w128 _ c.ranges.input_floor) at c.brought_weight.ensures.value in
    let bends : c.bend.result ≡ pos 2 *ℤ c.brought_weight.result -ℤ pos c.args.radius = rw (to_z-of_z w128 _ f) at c.bend.ensures.value in
    rw (← c.requires.radius) (floor_value p.limit_den c.bend.result h.limit_den g c.bend.ensures.small c.brought_weight.result c.args.input_floor
    (unsigned_abs p.limit_den) (unsigned_abs p.row_den ^ 2) _ c.args.radius (natural p.limit_den h.limit_den.low) bends value (least_natural p h c.args.input_floor c.requires.least c.requires.room))

pub brought_weight-requires-clause-room : goal.brought_weight-requires-clause-room
brought_weight-requires-clause-room c =
    rw (to_z-of_z w128 _ c.ranges.input_floor) (weight_room _ _ (least_is c.args.parts.now c.requires.design c.args.input_floor c.requires.least) c.requires.design.row_den)

pub brought_weight-requires-clause-weight : goal.brought_weight-requires-clause-weight
brought_weight-requires-clause-weight c = rw (to_z-of_z w128 _ c.ranges.input_floor) (least_is c.args.parts.now c.requires.design c.args.input_floor c.requires.least)
