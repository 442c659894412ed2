use Rattle.std.proofs.Common.{FitsSigned, unsigned_abs, rules}
use Rattle.std.specs.Int.{w128}
use Rattle.std.proofs.lemmas.Int.{to_z-of_z}
use Rattle.qp_model.specs.problem.Parts.{design_of}
use Rattle.qp_model.specs.machine.Controller.{numbers}
use Rattle.qp_model.proofs.SizeFacts.{some_row}
use Rattle.approx_inverse.proofs.DesignLaws.{solvable_from, descent_equal}
use Rattle.controller_maker.proofs.Frames.{sized, widest_from, widest_sum}
use Rattle.std.proofs.lemmas.Result.{IfOk-from_err}
use Rattle.controller_maker.proofs.assemble.widest_parts.Goals as goal

pub widest_gains-requires-clause-solvable : goal.widest_gains-requires-clause-solvable
widest_gains-requires-clause-solvable c = solvable_from c.args.design.now c.args.condensed.now c.requires.form

pub widest_gains-requires-clause-room : goal.widest_gains-requires-clause-room
widest_gains-requires-clause-room c = rw (descent_equal c.args.design.now c.args.condensed.now c.args.settings.f c.requires.form) c.requires.room

pub parts_with-requires-clause-rows : goal.parts_with-requires-clause-rows
parts_with-requires-clause-rows c = rw c.parts-parts.ensures.value (c.in_ok-rows.ensures c.args.design.now c.requires.form)

pub returns-in-Ok-state_box-clause-frame : goal.returns-in-Ok-state_box-clause-frame
returns-in-Ok-state_box-clause-frame c =
    let fits : FitsSigned w128 c.args.clamp = search rules in
    (rw (to_z-of_z w128 _ fits, c.parts-parts.ensures.value) at c.parts_with.ensures.frame) (unsigned_abs c.args.settings.r) c.requires.clamp

pub returns-in-Ok-state_box-clause-sized : goal.returns-in-Ok-state_box-clause-sized
returns-in-Ok-state_box-clause-sized c =
    let p = c.args.design.now in
    let fits : FitsSigned w128 c.args.clamp = search rules in
    let w = widest_from p c.args.condensed.now c.args.settings.f c.in-Ok.widest c.requires.form c.in-Ok.ensures in
    let fr = (rw (to_z-of_z w128 _ fits, c.parts-parts.ensures.value) at c.parts_with.ensures.frame) (unsigned_abs c.args.settings.r) c.requires.clamp in
    sized c.args.machine p (unsigned_abs c.args.settings.r) c.args.settings.s c.args.exps.items c.args.settings.steps c.args.settings.f (numbers c.parts_with.result) c.in-Ok.widest c.requires.form.design
    fr c.parts_with.ensures.gains w.sizes c.requires.bits c.requires.exponent c.requires.exponents c.requires.steps c.requires.limit

pub returns-in-Ok-state_box-clause-sum : goal.returns-in-Ok-state_box-clause-sum
returns-in-Ok-state_box-clause-sum c =
    let p = c.args.design.now in
    let fits : FitsSigned w128 c.args.clamp = search rules in
    let w = widest_from p c.args.condensed.now c.args.settings.f c.in-Ok.widest c.requires.form c.in-Ok.ensures in
    let fr = (rw (to_z-of_z w128 _ fits, c.parts-parts.ensures.value) at c.parts_with.ensures.frame) (unsigned_abs c.args.settings.r) c.requires.clamp in
    widest_sum c.args.machine (design_of p) (unsigned_abs c.args.settings.r) c.args.settings.s c.args.exps.items c.args.settings.steps c.args.settings.f (numbers c.parts_with.result) c.in-Ok.widest
    (some_row p c.requires.form.design) fr c.parts_with.ensures.gains w

pub rounded_rows-requires-clause-form : goal.rounded_rows-requires-clause-form
rounded_rows-requires-clause-form c = record { parts = c.args.design.now; form = c.requires.form }

pub rounded_rows-requires-clause-bits : goal.rounded_rows-requires-clause-bits
rounded_rows-requires-clause-bits c = c.requires.bits.1

pub widest_gains-requires-clause-bits : goal.widest_gains-requires-clause-bits
widest_gains-requires-clause-bits c = c.requires.bits.1

pub returns-in_err-rows-clause-frame : goal.returns-in_err-rows-clause-frame
returns-in_err-rows-clause-frame c = IfOk-from_err c.from_residual.result _ c.from_residual.ensures.0

pub returns-in_err-rows-clause-sized : goal.returns-in_err-rows-clause-sized
returns-in_err-rows-clause-sized c = IfOk-from_err c.from_residual.result _ c.from_residual.ensures.0

pub returns-in_err-rows-clause-sum : goal.returns-in_err-rows-clause-sum
returns-in_err-rows-clause-sum c = IfOk-from_err c.from_residual.result _ c.from_residual.ensures.0

pub returns-in-Err-clause-frame : goal.returns-in-Err-clause-frame
returns-in-Err-clause-frame c = tt

pub returns-in-Err-clause-sized : goal.returns-in-Err-clause-sized
returns-in-Err-clause-sized c = tt

pub returns-in-Err-clause-sum : goal.returns-in-Err-clause-sum
returns-in-Err-clause-sum c = tt

pub returns-in-Err-state_box-clause-frame : goal.returns-in-Err-state_box-clause-frame
returns-in-Err-state_box-clause-frame c = tt

pub returns-in-Err-state_box-clause-sized : goal.returns-in-Err-state_box-clause-sized
returns-in-Err-state_box-clause-sized c = tt

pub returns-in-Err-state_box-clause-sum : goal.returns-in-Err-state_box-clause-sum
returns-in-Err-state_box-clause-sum c = tt

pub parts_with-requires-clause-design : goal.parts_with-requires-clause-design
parts_with-requires-clause-design c = c.parts-parts.ensures.sound

pub parts_with-requires-clause-low : goal.parts_with-requires-clause-low
parts_with-requires-clause-low c = c.in-Ok-state_box.ensures.low

pub parts_with-requires-clause-high : goal.parts_with-requires-clause-high
parts_with-requires-clause-high c = c.in-Ok-state_box.ensures.high
