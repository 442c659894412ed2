use Rattle.std.proofs.Common.{◌∙◌, rules, FitsSigned, refl}
use Rattle.std.specs.Int.{w64}
use Rattle.std.proofs.lemmas.Int.{to_z-of_z}
use Rattle.qp_model.specs.machine.Controller.{numbers}
use Rattle.fast_machine.proofs.FastWordRooms.{twice_clamp_fits}
use Rattle.fast_machine.proofs.word_step.word_top_at.Goals as goal

pub overflow_mul-form : goal.overflow_mul-form
overflow_mul-form c =
    let top : FitsSigned w64 c.args.form.now.top = search rules in
    rw (to_z-of_z w64 _ top, c.requires.form.top) (twice_clamp_fits (numbers c.args.c.now) c.args.i c.requires.sound c.requires.words c.requires.in_range)

pub returns : goal.returns
returns c =
    let top : FitsSigned w64 c.args.form.now.top = search rules in
    let made : FitsSigned w64 c.word_shift.result = record { sfits = c.word_shift.type_inv } in
    let twice = twice_clamp_fits (numbers c.args.c.now) c.args.i c.requires.sound c.requires.words c.requires.in_range in
    to_z-of_z w64 _ made ∙ c.word_shift.ensures ∙ rw (c.lowering_at.ensures.value, to_z-of_z w64 _ top, c.requires.form.top, to_z-of_z w64 _ twice) refl
