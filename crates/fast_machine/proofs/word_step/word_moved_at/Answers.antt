use Rattle.std.proofs.Common.{◌∙◌, arith, FitsSigned, refl}
use Rattle.std.specs.Int.{w64}
use Rattle.std.proofs.lemmas.Int.{to_z-of_z}
use Rattle.qp_model.specs.machine.Controller.{numbers}
use Rattle.fast_machine.proofs.FastWordRooms.{sum_setting, moving_word_room}
use Rattle.fast_machine.proofs.word_step.word_moved_at.Goals as goal

pub word_row_sum-sum-requires : goal.word_row_sum-sum-requires
word_row_sum-sum-requires c = record { setting = sum_setting _ _ _ c.requires.setting; half = c.requires.half; bases = c.requires.bases; plan = c.requires.plan; in_range = c.requires.in_range }

pub word_shift-residual-requires : goal.word_shift-residual-requires
word_shift-residual-requires c = omega (arith, c.requires.setting.sound.form.sized.rest.fraction_bits)

pub word_top_at-top-requires : goal.word_top_at-top-requires
word_top_at-top-requires c = record { sound = c.requires.setting.sound; words = c.requires.setting.sized; form = c.requires.setting.form; in_range = c.requires.in_range }

pub word_moved-requires : goal.word_moved-requires
word_moved-requires c =
    let s = c.requires.setting in
    let sum : FitsSigned w64 c.word_row_sum-sum.result = record { sfits = c.word_row_sum-sum.type_inv } in
    let residual : FitsSigned w64 c.word_shift-residual.result = record { sfits = c.word_shift-residual.type_inv } in
    record {
      step = omega (arith, c.requires.step, s.sound.form.sized.steps);
      room = rw (to_z-of_z w64 _ c.ranges.old, to_z-of_z w64 _ residual, c.word_shift-residual.ensures, to_z-of_z w64 _ sum, c.word_row_sum-sum.ensures)
          (moving_word_room (numbers c.args.c.now) c.args.state.now c.args.plan.now c.args.old c.args.k c.args.i s.sound s.sized c.requires.step c.requires.in_range c.requires.old s.state c.requires.plan);
    }

pub returns : goal.returns
returns c =
    let sum : FitsSigned w64 c.word_row_sum-sum.result = record { sfits = c.word_row_sum-sum.type_inv } in
    let residual : FitsSigned w64 c.word_shift-residual.result = record { sfits = c.word_shift-residual.type_inv } in
    let top : FitsSigned w64 c.word_top_at-top.result = record { sfits = c.word_top_at-top.type_inv } in
    let made : FitsSigned w64 c.word_moved.result = record { sfits = c.word_moved.type_inv } in
    to_z-of_z w64 _ made ∙ c.word_moved.ensures ∙
    rw (to_z-of_z w64 _ top, c.word_top_at-top.ensures, to_z-of_z w64 _ c.ranges.old, to_z-of_z w64 _ residual, c.word_shift-residual.ensures, to_z-of_z w64 _ sum, c.word_row_sum-sum.ensures) refl
