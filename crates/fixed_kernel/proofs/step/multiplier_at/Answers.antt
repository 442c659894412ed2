use Rattle.std.proofs.Common.{pos, arith, rules, FitsSigned, ◌∙◌}
use Rattle.std.specs.Int.{w128}
use Rattle.std.proofs.lemmas.Int.{to_z-of_z}
use Rattle.std.proofs.lemmas.List.{get_or_read}
use Rattle.qp_model.specs.machine.Controller.{numbers}
use Rattle.fixed_kernel.proofs.Rooms.{move_room}
use Rattle.fixed_kernel.proofs.Raised.{moved_as, less_bound_as}
use Rattle.fixed_kernel.proofs.step.multiplier_at.Goals as goal

pub row_products-row-requires : goal.row_products-row-requires
row_products-row-requires c = record { setting = c.requires.setting; plan = c.requires.plan; in_range = c.requires.in_range }

pub multiplier_from-requires : goal.multiplier_from-requires
multiplier_from-requires c =
    let s = c.requires.setting in
    let row : FitsSigned w128 c.row_products-row.result = record { sfits = c.row_products-row.type_inv } in
    let bound : FitsSigned w128 c.index.result.now = search rules in
    let room = move_room (numbers c.args.c.now) c.args.state.now c.args.plan.now _ _ _ c.args.old c.args.i s.sound c.requires.in_range c.requires.old s.state c.requires.plan
    (to_z-of_z w128 _ row ∙ c.row_products-row.ensures) (to_z-of_z w128 _ bound ∙ get_or_read _ _ _ c.requires.in_range c.index.ensures (pos 0)) (to_z-of_z w128 _ c.ranges.old) in
    record { f = omega (arith, s.sound.form.sized.fraction_bits); row = room.0; next = room.1 }

pub returns : goal.returns
returns c =
    let row : FitsSigned w128 c.row_products-row.result = record { sfits = c.row_products-row.type_inv } in
    let bound : FitsSigned w128 c.index.result.now = search rules in
    let moved : FitsSigned w128 c.multiplier_from.result = record { sfits = c.multiplier_from.type_inv } in
    to_z-of_z w128 _ moved ∙ c.multiplier_from.ensures ∙
    moved_as c.args.c.now.f _ _ _ _ _ _ (to_z-of_z w128 _ c.ranges.top) (to_z-of_z w128 _ c.ranges.old)
    (less_bound_as c.args.c.now.f _ _ _ _ (to_z-of_z w128 _ row ∙ c.row_products-row.ensures) (to_z-of_z w128 _ bound ∙ get_or_read _ _ _ c.requires.in_range c.index.ensures (pos 0)))
