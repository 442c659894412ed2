use Rattle.std.proofs.Common.{◌≡◌, get_or, pos, rules, FitsSigned, refl, arith, ◌∙◌, ap, List, ℤ, []}
use Rattle.std.specs.Int.{w64}
use Rattle.std.proofs.lemmas.Int.{to_z-of_z}
use Rattle.mat_int.specs.Matrix.{row_of}
use Rattle.qp_model.specs.machine.Controller.{numbers}
use Rattle.overflow_check.specs.FastController.{with_last_version}
use Rattle.fixed_kernel.specs.WordForm.{entry_base}
use Rattle.fixed_kernel.proofs.Rooms.{multipliers_long}
use Rattle.fixed_kernel.proofs.WordRooms.{entry_word_room, entry_sum_narrow, entry_bases_long, entry_bases_at}
use Rattle.fixed_kernel.proofs.Factors.{multipliers_half}
use Rattle.fixed_kernel.proofs.word_step.word_entry_at.Goals as goal

pub bounds-bases-j : goal.bounds-bases-j
bounds-bases-j c = rw (c.requires.bases, entry_bases_long (numbers c.args.c.now) c.args.state.now) c.requires.in_range

pub row-requires : goal.row-requires
row-requires c =
    let shaped = c.requires.setting.sound.form.sized.shaped in
    rw c.requires.setting.form.gains (omega (arith, shaped.dual_gains.rows, shaped.offsets, c.requires.in_range))

pub dot-sum-requires-clause-lengths : goal.dot-sum-requires-clause-lengths
dot-sum-requires-clause-lengths c =
    let n = numbers c.args.c.now in
    let len = rw c.requires.setting.form.gains at c.row.ensures.len in
    omega (arith, len, c.requires.setting.sound.form.sized.shaped.dual_gains.cols, multipliers_long (with_last_version n) c.args.multipliers.now c.requires.setting.sound c.requires.multipliers)

pub dot-sum-requires-clause-left : goal.dot-sum-requires-clause-left
dot-sum-requires-clause-left c = λ t.
    let n = numbers c.args.c.now in
    let shaped = c.requires.setting.sound.form.sized.shaped in
    let row : c.row.result.now ≡ row_of n.dual_gains c.args.j = rw c.requires.setting.form.gains at c.row.ensures.value in
    rw row ((c.requires.half t).dual_gains c.args.j [] (omega (arith, shaped.dual_gains.rows, shaped.offsets, c.requires.in_range)))

pub dot-sum-requires-clause-right : goal.dot-sum-requires-clause-right
dot-sum-requires-clause-right c = λ t. multipliers_half (numbers c.args.c.now) c.args.multipliers.now (c.requires.half t) c.requires.multipliers

pub dot-sum-requires-clause-room : goal.dot-sum-requires-clause-room
dot-sum-requires-clause-room c =
    let n = numbers c.args.c.now in
    let base : FitsSigned w64 (get_or c.args.bases.now c.args.j (pos 0)) = search rules in
    let read : get_or c.args.bases.now c.args.j (pos 0) ≡ entry_base n c.args.state.now c.args.j =
    ap (λ (xs : List ℤ). get_or xs c.args.j (pos 0)) c.requires.bases ∙ entry_bases_at n c.args.state.now c.args.j c.requires.in_range in
    let row : c.row.result.now ≡ row_of n.dual_gains c.args.j = rw c.requires.setting.form.gains at c.row.ensures.value in
    rw (to_z-of_z w64 _ base, read, row)
    (entry_word_room (with_last_version n) c.args.state.now c.args.multipliers.now c.args.j c.requires.setting.sound c.requires.setting.sized.width c.requires.in_range c.requires.setting.state c.requires.multipliers)

pub word_entry-requires-clause-room : goal.word_entry-requires-clause-room
word_entry-requires-clause-room c =
    let n = numbers c.args.c.now in
    let sum : FitsSigned w64 c.dot-sum.result = search rules in
    let base : FitsSigned w64 (get_or c.args.bases.now c.args.j (pos 0)) = search rules in
    let read : get_or c.args.bases.now c.args.j (pos 0) ≡ entry_base n c.args.state.now c.args.j =
    ap (λ (xs : List ℤ). get_or xs c.args.j (pos 0)) c.requires.bases ∙ entry_bases_at n c.args.state.now c.args.j c.requires.in_range in
    let row : c.row.result.now ≡ row_of n.dual_gains c.args.j = rw c.requires.setting.form.gains at c.row.ensures.value in
    rw (to_z-of_z w64 _ sum, c.dot-sum.ensures, to_z-of_z w64 _ base, read, row)
    (entry_sum_narrow (with_last_version n) c.args.state.now c.args.multipliers.now c.args.j c.requires.setting.sound c.requires.setting.sized.width c.requires.in_range c.requires.setting.state c.requires.multipliers)

pub returns : goal.returns
returns c =
    let n = numbers c.args.c.now in
    let entry : FitsSigned w64 c.word_entry.result = search rules in
    let sum : FitsSigned w64 c.dot-sum.result = search rules in
    let base : FitsSigned w64 (get_or c.args.bases.now c.args.j (pos 0)) = search rules in
    let read : get_or c.args.bases.now c.args.j (pos 0) ≡ entry_base n c.args.state.now c.args.j =
    ap (λ (xs : List ℤ). get_or xs c.args.j (pos 0)) c.requires.bases ∙ entry_bases_at n c.args.state.now c.args.j c.requires.in_range in
    let row : c.row.result.now ≡ row_of n.dual_gains c.args.j = rw c.requires.setting.form.gains at c.row.ensures.value in
    rw (to_z-of_z w64 _ entry, c.word_entry.ensures, to_z-of_z w64 _ sum, c.dot-sum.ensures, to_z-of_z w64 _ base, read, row) refl
