use Rattle.std.proofs.Common.{◌≡◌, ◌∙◌, ◌&&◌, ◌||◌, ℕ, List, ap, sym, length, get_or, arith}
use Rattle.integer_algebra.specs.Sums.{at}
use Rattle.mat_int.specs.Matrix.{row_of}
use Rattle.qp_model.specs.machine.Controller.{numbers}
use Rattle.overflow_check.specs.FastController.{with_last_version}
use Rattle.overflow_check.proofs.Sizes.{length-state_reach}
use Rattle.c_program.specs.Of.{any_below, is_product, is_row_needed, state_top}
use Rattle.c_program.proofs.ProgramNeeds.{coordinate_needed}
use Rattle.c_writer.proofs.needed.is_coordinate_needed_at.Goals as goal

pub has_column_product-entry-requires : goal.has_column_product-entry-requires
has_column_product-entry-requires c =
    let n = numbers c.args.from.now.c.now in
    let sized = c.args.from.now.sound.form.sized in
    let long : length c.args.from.now.states.now ≡ n.states = ap (λ (xs : List ℕ). length xs) c.args.from.now.state_tops ∙ length-state_reach (with_last_version n) sized in
    omega (arith, long, c.requires.in_range, sized.shaped.state_gains.cols)

pub is_in_needed_rows-row-requires-clause-column : goal.is_in_needed_rows-row-requires-clause-column
is_in_needed_rows-row-requires-clause-column c =
    let n = numbers c.args.from.now.c.now in
    let sized = c.args.from.now.sound.form.sized in
    let long : length c.args.from.now.states.now ≡ n.states = ap (λ (xs : List ℕ). length xs) c.args.from.now.state_tops ∙ length-state_reach (with_last_version n) sized in
    omega (arith, long, c.requires.in_range, sized.shaped.state_rows.cols)

pub is_in_needed_rows-row-requires-clause-rows : goal.is_in_needed_rows-row-requires-clause-rows
is_in_needed_rows-row-requires-clause-rows c =
    let s = c.args.from.now.sound.form.sized.shaped in
    omega (arith, s.state_rows.rows, s.bounds)

pub returns : goal.returns
returns c =
    let n = numbers c.args.from.now.c.now in
    let k = c.args.k in
    let s = c.args.from.now.sound.form.sized.shaped in
    let own = λ (top : ℕ) (m : ℕ). any_below (λ j. is_product (at (row_of n.state_gains j) k) top) m in
    let bounded = λ (top : ℕ). any_below (λ i. is_row_needed n i && is_product (at (row_of n.state_rows i) k) top) (length n.bounds) in
    let top : get_or c.args.from.now.states.now k 0 ≡ state_top n k = ap (λ (xs : List ℕ). get_or xs k 0) c.args.from.now.state_tops in
    let many : length n.state_gains.rows ≡ length n.offsets = s.state_gains.rows ∙ sym s.offsets in
    let first = c.has_column_product-entry.ensures ∙ (λ i. own (top i) (many i)) in
    let second = c.is_in_needed_rows-row.ensures ∙ ap bounded top in
    c.either.ensures ∙ (λ i. first i || second i) ∙ sym (coordinate_needed n k)
