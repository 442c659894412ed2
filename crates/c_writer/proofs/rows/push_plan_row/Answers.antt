use Rattle.std.proofs.Common.{◌≡◌, ◌++◌, ◌∙◌, ◌^◌, ℕ, List, length, ap, arith, decimal, string_bytes}
use Rattle.mat_int.specs.Matrix.{row_of}
use Rattle.qp_model.specs.machine.Controller.{numbers}
use Rattle.qp_model.specs.machine.AbsoluteSums.{plan_magnitudes}
use Rattle.integer_algebra.specs.Division.{floor_of}
use Rattle.integer_algebra.specs.Sums.{at}
use Rattle.c_language.specs.Syntax.{variable}
use Rattle.c_language.specs.Text.{variable_text}
use Rattle.c_program.specs.Of.{entry_top}
use Rattle.c_writer.specs.Terms.{entry_family, factor_bits, row_factor}
use Rattle.c_writer.proofs.InParts.{products_alike, row_factor_is}
use Rattle.overflow_check.proofs.Sizes.{length-plan_reach}
use Rattle.c_writer.proofs.Rooms.{row_room, products_fit}
use Rattle.c_writer.proofs.Texts.{lowered_same}
use Rattle.c_writer.proofs.rows.push_plan_row.Goals as goal

pub push_lowered_row-requires-clause-small : goal.push_lowered_row-requires-clause-small
push_lowered_row-requires-clause-small c = omega (arith, c.factor_bits-bits.ensures.few, c.args.from.now.sound.form.sized.fraction_bits.1)

pub push_lowered_row-requires-clause-long : goal.push_lowered_row-requires-clause-long
push_lowered_row-requires-clause-long c =
    let n = numbers c.args.from.now.c.now in
    rw c.args.from.now.plan_tops (omega (arith, c.row.ensures.len, c.args.from.now.sound.form.sized.shaped.plan_rows.cols, c.args.from.now.sound.form.sized.shaped.offsets, length-plan_reach n))

pub push_lowered_row-requires-clause-room : goal.push_lowered_row-requires-clause-room
push_lowered_row-requires-clause-room c =
    let n = numbers c.args.from.now.c.now in
    let long : length c.row.result.now ≡ length c.args.from.now.plan.now =
    rw c.args.from.now.plan_tops (omega (arith, c.row.ensures.len, c.args.from.now.sound.form.sized.shaped.plan_rows.cols, c.args.from.now.sound.form.sized.shaped.offsets, length-plan_reach n)) in
    products_fit c.row.result.now c.args.from.now.plan.now long (rw (c.row.ensures.value, c.args.from.now.plan_tops) ((row_room n c.args.i c.args.from.now.sound c.requires.in_range).1))

pub returns : goal.returns
returns c =
    let m = c.args.from.now in
    let n = numbers m.c.now in
    let part = c.args.part in
    let i = c.args.i in
    let name = λ (k : ℕ). c.entry_letter-letter.result.now ++ decimal k in
    let many = length n.offsets in
    c.in_ok-push_lowered_row.ensures ∙ ap (λ (t : List ℕ). string_bytes c.args.text.now ++ t)
    (lowered_same _ (row_of n.plan_rows i) _ (factor_bits n part i) _ (plan_magnitudes n) name many c.row.ensures.value c.factor_bits-bits.ensures.value m.plan_tops
    (omega (arith, c.row.ensures.len, m.sound.form.sized.shaped.plan_rows.cols, m.sound.form.sized.shaped.offsets)) ∙
    products_alike (λ j. floor_of (at (row_of n.plan_rows i) j) (2 ^ factor_bits n part i)) (row_factor n part i) (entry_top n) name (λ j. variable_text (variable (entry_family part) j)) many
    (row_factor_is n part i) c.entry_letter-letter.ensures)
