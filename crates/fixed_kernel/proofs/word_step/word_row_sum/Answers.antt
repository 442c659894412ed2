use Rattle.std.proofs.Common.{◌≡◌, get_or, pos, rules, FitsSigned, arith, ◌∙◌, ap, List, ℤ, []}
use Rattle.std.specs.Int.{w64}
use Rattle.std.proofs.lemmas.Int.{to_z-of_z}
use Rattle.mat_int.specs.Matrix.{row_of}
use Rattle.qp_model.specs.machine.Controller.{numbers}
use Rattle.overflow_check.specs.FastController.{with_last_version}
use Rattle.fixed_kernel.specs.WordForm.{row_base}
use Rattle.fixed_kernel.proofs.Rooms.{plan_long}
use Rattle.fixed_kernel.proofs.WordRooms.{row_word_room, row_bases_long, row_bases_at, row_sum_is}
use Rattle.fixed_kernel.proofs.Factors.{plan_half, half_last}
use Rattle.fixed_kernel.proofs.word_step.word_row_sum.Goals as goal

pub bounds-bases-i : goal.bounds-bases-i
bounds-bases-i c = rw (c.requires.bases, row_bases_long (numbers c.args.c.now) c.args.state.now) c.requires.in_range

pub row-requires : goal.row-requires
row-requires c =
    let shaped = c.requires.setting.sound.form.sized.shaped in
    rw c.requires.setting.form.rows (omega (arith, shaped.plan_rows.rows, shaped.bounds, c.requires.in_range))

pub dot-requires-clause-lengths : goal.dot-requires-clause-lengths
dot-requires-clause-lengths c =
    let shaped = c.requires.setting.sound.form.sized.shaped in
    let len = rw c.requires.setting.form.rows at c.row.ensures.len in
    omega (arith, len, shaped.plan_rows.cols, shaped.offsets, plan_long (numbers c.args.c.now) c.args.plan.now c.requires.plan)

pub dot-requires-clause-left : goal.dot-requires-clause-left
dot-requires-clause-left c = λ t.
    let n = numbers c.args.c.now in
    let shaped = c.requires.setting.sound.form.sized.shaped in
    let row : c.row.result.now ≡ row_of n.plan_rows c.args.i = rw c.requires.setting.form.rows at c.row.ensures.value in
    rw row ((c.requires.half t).plan_rows c.args.i [] (omega (arith, shaped.plan_rows.rows, shaped.bounds, c.requires.in_range)))

pub dot-requires-clause-right : goal.dot-requires-clause-right
dot-requires-clause-right c = λ t. plan_half (with_last_version (numbers c.args.c.now)) c.args.plan.now c.requires.setting.sound (half_last _ (c.requires.half t)) c.requires.plan

pub dot-requires-clause-room : goal.dot-requires-clause-room
dot-requires-clause-room c =
    let n = numbers c.args.c.now in
    let base : FitsSigned w64 (get_or c.args.bases.now c.args.i (pos 0)) = search rules in
    let read : get_or c.args.bases.now c.args.i (pos 0) ≡ row_base n c.args.state.now c.args.i =
    ap (λ (xs : List ℤ). get_or xs c.args.i (pos 0)) c.requires.bases ∙ row_bases_at n c.args.state.now c.args.i c.requires.in_range in
    let row : c.row.result.now ≡ row_of n.plan_rows c.args.i = rw c.requires.setting.form.rows at c.row.ensures.value in
    rw (to_z-of_z w64 _ base, read, row) (row_word_room (with_last_version n) c.args.state.now c.args.plan.now c.args.i c.requires.setting.sound c.requires.setting.sized.width c.requires.in_range c.requires.setting.state c.requires.plan)

pub returns : goal.returns
returns c =
    let n = numbers c.args.c.now in
    let made : FitsSigned w64 c.dot.result = search rules in
    let base : FitsSigned w64 (get_or c.args.bases.now c.args.i (pos 0)) = search rules in
    let read : get_or c.args.bases.now c.args.i (pos 0) ≡ row_base n c.args.state.now c.args.i =
    ap (λ (xs : List ℤ). get_or xs c.args.i (pos 0)) c.requires.bases ∙ row_bases_at n c.args.state.now c.args.i c.requires.in_range in
    let row : c.row.result.now ≡ row_of n.plan_rows c.args.i = rw c.requires.setting.form.rows at c.row.ensures.value in
    rw (to_z-of_z w64 _ made, c.dot.ensures, to_z-of_z w64 _ base, read, row) (row_sum_is n c.args.state.now c.args.plan.now c.args.i)
