use Rattle.std.proofs.Common.{◌≡◌, ◌∙◌, ◌&&◌, ℕ, List, ap, sym, length, get_or, arith}
use Rattle.integer_algebra.specs.Sums.{at}
use Rattle.mat_int.specs.Matrix.{row_of}
use Rattle.qp_model.specs.machine.Controller.{numbers}
use Rattle.overflow_check.proofs.Sizes.{length-plan_reach}
use Rattle.c_program.specs.Of.{any_below, is_product, is_row_needed, entry_top}
use Rattle.c_writer.proofs.InParts.{entry_needed}
use Rattle.c_writer.proofs.needed.is_entry_needed_at.Goals as goal

pub bounds-from-j : goal.bounds-from-j
bounds-from-j c = rw c.args.from.now.plan_tops (omega (arith, length-plan_reach (numbers c.args.from.now.c.now), c.requires.in_range))

pub is_in_needed_rows-requires-clause-rows : goal.is_in_needed_rows-requires-clause-rows
is_in_needed_rows-requires-clause-rows c =
    let s = c.args.from.now.sound.form.sized.shaped in
    omega (arith, s.plan_rows.rows, s.bounds)

pub is_in_needed_rows-requires-clause-column : goal.is_in_needed_rows-requires-clause-column
is_in_needed_rows-requires-clause-column c =
    let s = c.args.from.now.sound.form.sized.shaped in
    omega (arith, c.requires.in_range, s.plan_rows.cols, s.offsets)

pub returns : goal.returns
returns c =
    let n = numbers c.args.from.now.c.now in
    let j = c.args.j in
    let top : get_or c.args.from.now.plan.now j 0 ≡ entry_top n j = ap (λ (xs : List ℕ). get_or xs j 0) c.args.from.now.plan_tops in
    c.is_in_needed_rows.ensures ∙ ap (λ (t : ℕ). any_below (λ i. is_row_needed n i && is_product (at (row_of n.plan_rows i) j) t) (length n.bounds)) top ∙ sym (entry_needed n j)
