use Rattle.std.proofs.Common.{◌≡◌, ◌^◌, pos, arith, rules, FitsSigned, sym, subst, ◌∙◌}
use Rattle.std.specs.Int.{w128}
use Rattle.std.proofs.lemmas.Int.{to_z-of_z}
use Rattle.std.proofs.lemmas.List.{get_or_read}
use Rattle.integer_algebra.specs.Division.{floor_of}
use Rattle.mat_products.specs.Narrow.{IsNarrow}
use Rattle.qp_model.specs.machine.Controller.{numbers}
use Rattle.qp_model.specs.machine.Machine.{lowering_of, next_multiplier}
use Rattle.fixed_kernel.proofs.Rooms.{move_room}
use Rattle.fixed_kernel.proofs.Raised.{lowered_within, moved_as, less_bound_as, times_as, floor_as, moved_unlowered, moved_raised_fits, moved_raised_narrow}
use Rattle.fixed_kernel.proofs.step.raised_multiplier_at.Goals as goal
use Rattle.fixed_kernel.proofs.step.raised_multiplier_at.Goals.{After-multiplier_from-next}

pub row_products-row-requires : goal.row_products-row-requires
row_products-row-requires c = record { setting = c.requires.setting; plan = c.requires.plan; in_range = c.requires.in_range }

pub lowering_at-lowering-requires : goal.lowering_at-lowering-requires
lowering_at-lowering-requires c = record { sound = c.requires.setting.sound; exps = c.requires.exps; in_range = c.requires.in_range }

-- ---- where no bit is lowered
pub multiplier_from-requires : goal.multiplier_from-requires
multiplier_from-requires c =
    let s = c.requires.setting in
    let row : FitsSigned w128 c.row_products-row.result = record { sfits = c.row_products-row.type_inv } in
    let bound : FitsSigned w128 c.index.result.now = search rules in
    let room = move_room (numbers c.args.c.now) c.args.state.now c.args.plan.now _ _ _ c.args.raised c.args.i s.sound c.requires.in_range c.requires.raised s.state c.requires.plan
    (to_z-of_z w128 _ row ∙ c.row_products-row.ensures) (to_z-of_z w128 _ bound ∙ get_or_read _ _ _ c.requires.in_range c.index.ensures (pos 0)) (to_z-of_z w128 _ c.ranges.raised) in
    record { f = omega (arith, s.sound.form.sized.fraction_bits); row = room.0; next = room.1 }

pub returns-then-lowering-eq0 : goal.returns-then-lowering-eq0
returns-then-lowering-eq0 c =
    let n = numbers c.args.c.now in
    let row : FitsSigned w128 c.row_products-row.result = record { sfits = c.row_products-row.type_inv } in
    let bound : FitsSigned w128 c.index.result.now = search rules in
    let clamp : FitsSigned w128 n.clamp = search rules in
    let moved : FitsSigned w128 c.multiplier_from.result = record { sfits = c.multiplier_from.type_inv } in
    to_z-of_z w128 _ moved ∙ c.multiplier_from.ensures ∙
    moved_as c.args.c.now.f _ _ _ _ _ _ (to_z-of_z w128 _ clamp) (to_z-of_z w128 _ c.ranges.raised)
    (less_bound_as c.args.c.now.f _ _ _ _ (to_z-of_z w128 _ row ∙ c.row_products-row.ensures) (to_z-of_z w128 _ bound ∙ get_or_read _ _ _ c.requires.in_range c.index.ensures (pos 0))) ∙
    moved_unlowered n c.args.state.now c.args.plan.now c.args.raised c.args.i (sym c.lowering_at-lowering.ensures.value ∙ c.if-lowering-eq0.true)

-- ---- where some are
pub shifted_by-old-requires : goal.shifted_by-old-requires
shifted_by-old-requires c = record {
  bits = omega (arith, c.lowering_at-lowering.ensures.bits);
  narrow = λ t. subst IsNarrow (sym (to_z-of_z w128 _ c.ranges.raised)) (omega (arith, c.requires.raised, (c.requires.setting.narrow t).clamp));
}

pub shifted_by-top-requires : goal.shifted_by-top-requires
shifted_by-top-requires c =
    let clamp : FitsSigned w128 c.args.c.now.clamp = search rules in
    record { bits = omega (arith, c.lowering_at-lowering.ensures.bits); narrow = λ t. subst IsNarrow (sym (to_z-of_z w128 _ clamp)) (c.requires.setting.narrow t).clamp }

pub multiplier_from-next-requires : goal.multiplier_from-next-requires
multiplier_from-next-requires c =
    let n = numbers c.args.c.now in
    let s = c.requires.setting in
    let row : FitsSigned w128 c.row_products-row.result = record { sfits = c.row_products-row.type_inv } in
    let bound : FitsSigned w128 c.index-else-lowering-eq0.result.now = search rules in
    let old : FitsSigned w128 c.shifted_by-old.result = record { sfits = c.shifted_by-old.type_inv } in
    let room = move_room n c.args.state.now c.args.plan.now _ _ _ _ c.args.i s.sound c.requires.in_range (lowered_within n c.args.raised c.args.i c.requires.raised) s.state c.requires.plan
    (to_z-of_z w128 _ row ∙ c.row_products-row.ensures) (to_z-of_z w128 _ bound ∙ get_or_read _ _ _ c.requires.in_range c.index-else-lowering-eq0.ensures (pos 0))
    (to_z-of_z w128 _ old ∙ c.shifted_by-old.ensures ∙ floor_as _ _ _ _ (to_z-of_z w128 _ c.ranges.raised) c.lowering_at-lowering.ensures.value) in
    record { f = omega (arith, s.sound.form.sized.fraction_bits); row = room.0; next = room.1 }

-- the multiplier that moved, before it is raised
next_is : (c : After-multiplier_from-next) → c.multiplier_from-next.result ≡ next_multiplier (numbers c.args.c.now) c.args.state.now c.args.plan.now (floor_of c.args.raised (2 ^ lowering_of (numbers c.args.c.now) c.args.i)) c.args.i
next_is c =
    let row : FitsSigned w128 c.row_products-row.result = record { sfits = c.row_products-row.type_inv } in
    let bound : FitsSigned w128 c.index-else-lowering-eq0.result.now = search rules in
    let clamp : FitsSigned w128 c.args.c.now.clamp = search rules in
    let old : FitsSigned w128 c.shifted_by-old.result = record { sfits = c.shifted_by-old.type_inv } in
    let top : FitsSigned w128 c.shifted_by-top.result = record { sfits = c.shifted_by-top.type_inv } in
    c.multiplier_from-next.ensures ∙
    moved_as c.args.c.now.f _ _ _ _ _ _ (to_z-of_z w128 _ top ∙ c.shifted_by-top.ensures ∙ floor_as _ _ _ _ (to_z-of_z w128 _ clamp) c.lowering_at-lowering.ensures.value)
    (to_z-of_z w128 _ old ∙ c.shifted_by-old.ensures ∙ floor_as _ _ _ _ (to_z-of_z w128 _ c.ranges.raised) c.lowering_at-lowering.ensures.value)
    (less_bound_as c.args.c.now.f _ _ _ _ (to_z-of_z w128 _ row ∙ c.row_products-row.ensures) (to_z-of_z w128 _ bound ∙ get_or_read _ _ _ c.requires.in_range c.index-else-lowering-eq0.ensures (pos 0)))

pub scaled_by-requires : goal.scaled_by-requires
scaled_by-requires c =
    let n = numbers c.args.c.now in
    let next : FitsSigned w128 c.multiplier_from-next.result = record { sfits = c.multiplier_from-next.type_inv } in
    let old = floor_of c.args.raised (2 ^ lowering_of n c.args.i) in
    let same = times_as _ _ _ _ (to_z-of_z w128 _ next ∙ next_is (goal.at.scaled_by-requires c).After-multiplier_from-next) c.lowering_at-lowering.ensures.value in
    record {
      bits = omega (arith, c.lowering_at-lowering.ensures.bits);
      narrow = λ t. subst IsNarrow (sym same) (moved_raised_narrow n c.args.state.now c.args.plan.now old c.args.i c.requires.setting.sound (c.requires.setting.narrow t) c.requires.in_range);
      fits = subst (FitsSigned w128) (sym same) (moved_raised_fits n c.args.state.now c.args.plan.now old c.args.i c.requires.setting.sound c.requires.in_range);
    }

pub returns-else-lowering-eq0 : goal.returns-else-lowering-eq0
returns-else-lowering-eq0 c =
    let next : FitsSigned w128 c.multiplier_from-next.result = record { sfits = c.multiplier_from-next.type_inv } in
    let made : FitsSigned w128 c.scaled_by.result = record { sfits = c.scaled_by.type_inv } in
    to_z-of_z w128 _ made ∙ c.scaled_by.ensures ∙
    times_as _ _ _ _ (to_z-of_z w128 _ next ∙ next_is (goal.at.returns-else-lowering-eq0 c).After-multiplier_from-next) c.lowering_at-lowering.ensures.value
