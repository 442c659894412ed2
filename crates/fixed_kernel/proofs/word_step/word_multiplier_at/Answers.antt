use Rattle.std.proofs.Common.{◌≡◌, ◌^◌, rules, arith, FitsSigned, sym, subst, ◌∙◌}
use Rattle.std.specs.Int.{w64}
use Rattle.std.proofs.lemmas.Int.{to_z-of_z}
use Rattle.integer_algebra.specs.Division.{floor_of}
use Rattle.mat_products.specs.Narrow.{IsNarrow}
use Rattle.qp_model.specs.machine.Controller.{numbers}
use Rattle.qp_model.specs.machine.Machine.{lowering_of, next_multiplier}
use Rattle.fixed_kernel.proofs.WordRooms.{next_room_as, moved_raised_word, sum_setting}
use Rattle.fixed_kernel.proofs.Raised.{lowered_within, moved_as, times_as, floor_as, moved_unlowered}
use Rattle.fixed_kernel.proofs.word_step.word_multiplier_at.Goals as goal
use Rattle.fixed_kernel.proofs.word_step.word_multiplier_at.Goals.{After-word_multiplier-else-lowering-eq0}

pub word_row_sum-sum-requires : goal.word_row_sum-sum-requires
word_row_sum-sum-requires c = record { setting = sum_setting _ _ _ c.requires.setting; half = c.requires.half; bases = c.requires.bases; plan = c.requires.plan; in_range = c.requires.in_range }

pub lowering_at-lowering-requires : goal.lowering_at-lowering-requires
lowering_at-lowering-requires c = record { sound = c.requires.setting.sound; exps = c.requires.exps; in_range = c.requires.in_range }

-- ---- where no bit is lowered
pub word_multiplier-requires : goal.word_multiplier-requires
word_multiplier-requires c =
    let s = c.requires.setting in
    let sum : FitsSigned w64 c.word_row_sum-sum.result = record { sfits = c.word_row_sum-sum.type_inv } in
    record {
      f = omega (arith, s.sound.form.sized.fraction_bits);
      next = next_room_as (numbers c.args.c.now) c.args.state.now c.args.plan.now _ _ c.args.raised c.args.i s.sound s.sized.width c.requires.in_range c.requires.raised s.state c.requires.plan
          (to_z-of_z w64 _ sum ∙ c.word_row_sum-sum.ensures) (to_z-of_z w64 _ c.ranges.raised);
    }

pub returns-then-lowering-eq0 : goal.returns-then-lowering-eq0
returns-then-lowering-eq0 c =
    let sum : FitsSigned w64 c.word_row_sum-sum.result = record { sfits = c.word_row_sum-sum.type_inv } in
    let top : FitsSigned w64 c.args.form.now.top = search rules in
    let moved : FitsSigned w64 c.word_multiplier.result = record { sfits = c.word_multiplier.type_inv } in
    to_z-of_z w64 _ moved ∙ c.word_multiplier.ensures ∙
    moved_as c.args.c.now.f _ _ _ _ _ _ (to_z-of_z w64 _ top ∙ c.requires.setting.form.top) (to_z-of_z w64 _ c.ranges.raised) (to_z-of_z w64 _ sum ∙ c.word_row_sum-sum.ensures) ∙
    moved_unlowered (numbers c.args.c.now) c.args.state.now c.args.plan.now c.args.raised c.args.i (sym c.lowering_at-lowering.ensures.value ∙ c.if-lowering-eq0.true)

-- ---- where some are
pub word_shift-old-requires : goal.word_shift-old-requires
word_shift-old-requires c = omega (arith, c.lowering_at-lowering.ensures.bits)

pub word_shift-top-requires : goal.word_shift-top-requires
word_shift-top-requires c = omega (arith, c.lowering_at-lowering.ensures.bits)

pub word_multiplier-requires-else-lowering-eq0 : goal.word_multiplier-requires-else-lowering-eq0
word_multiplier-requires-else-lowering-eq0 c =
    let n = numbers c.args.c.now in
    let s = c.requires.setting in
    let sum : FitsSigned w64 c.word_row_sum-sum.result = record { sfits = c.word_row_sum-sum.type_inv } in
    let old : FitsSigned w64 c.word_shift-old.result = record { sfits = c.word_shift-old.type_inv } in
    record {
      f = omega (arith, s.sound.form.sized.fraction_bits);
      next = next_room_as n c.args.state.now c.args.plan.now _ _ _ c.args.i s.sound s.sized.width c.requires.in_range (lowered_within n c.args.raised c.args.i c.requires.raised) s.state c.requires.plan
          (to_z-of_z w64 _ sum ∙ c.word_row_sum-sum.ensures) (to_z-of_z w64 _ old ∙ c.word_shift-old.ensures ∙ floor_as _ _ _ _ (to_z-of_z w64 _ c.ranges.raised) c.lowering_at-lowering.ensures.value);
    }

-- the multiplier that moved, before it is raised
next_is : (c : After-word_multiplier-else-lowering-eq0) →
    c.word_multiplier-else-lowering-eq0.result ≡ next_multiplier (numbers c.args.c.now) c.args.state.now c.args.plan.now (floor_of c.args.raised (2 ^ lowering_of (numbers c.args.c.now) c.args.i)) c.args.i
next_is c =
    let sum : FitsSigned w64 c.word_row_sum-sum.result = record { sfits = c.word_row_sum-sum.type_inv } in
    let clamp : FitsSigned w64 c.args.form.now.top = search rules in
    let old : FitsSigned w64 c.word_shift-old.result = record { sfits = c.word_shift-old.type_inv } in
    let top : FitsSigned w64 c.word_shift-top.result = record { sfits = c.word_shift-top.type_inv } in
    c.word_multiplier-else-lowering-eq0.ensures ∙
    moved_as c.args.c.now.f _ _ _ _ _ _ (to_z-of_z w64 _ top ∙ c.word_shift-top.ensures ∙ floor_as _ _ _ _ (to_z-of_z w64 _ clamp ∙ c.requires.setting.form.top) c.lowering_at-lowering.ensures.value)
    (to_z-of_z w64 _ old ∙ c.word_shift-old.ensures ∙ floor_as _ _ _ _ (to_z-of_z w64 _ c.ranges.raised) c.lowering_at-lowering.ensures.value) (to_z-of_z w64 _ sum ∙ c.word_row_sum-sum.ensures)

pub word_raised-requires : goal.word_raised-requires
word_raised-requires c =
    let n = numbers c.args.c.now in
    let s = c.requires.setting in
    let next : FitsSigned w64 c.word_multiplier-else-lowering-eq0.result = record { sfits = c.word_multiplier-else-lowering-eq0.type_inv } in
    let same = times_as _ _ _ _ (to_z-of_z w64 _ next ∙ next_is (goal.at.word_raised-requires c).After-word_multiplier-else-lowering-eq0) c.lowering_at-lowering.ensures.value in
    record {
      bits = omega (arith, c.lowering_at-lowering.ensures.bits);
      room = subst IsNarrow (sym same) (moved_raised_word n c.args.state.now c.args.plan.now (floor_of c.args.raised (2 ^ lowering_of n c.args.i)) c.args.i s.sound s.sized c.requires.in_range);
    }

pub returns-else-lowering-eq0 : goal.returns-else-lowering-eq0
returns-else-lowering-eq0 c =
    let next : FitsSigned w64 c.word_multiplier-else-lowering-eq0.result = record { sfits = c.word_multiplier-else-lowering-eq0.type_inv } in
    let made : FitsSigned w64 c.word_raised.result = record { sfits = c.word_raised.type_inv } in
    to_z-of_z w64 _ made ∙ c.word_raised.ensures ∙
    times_as _ _ _ _ (to_z-of_z w64 _ next ∙ next_is (goal.at.returns-else-lowering-eq0 c).After-word_multiplier-else-lowering-eq0) c.lowering_at-lowering.ensures.value
