use Rattle.std.proofs.Common.{◌∙◌, ℕ, ap, sym, length, arith}
use Rattle.integer_algebra.specs.Sums.{at}
use Rattle.mat_int.specs.Matrix.{row_of}
use Rattle.qp_model.specs.machine.Controller.{numbers}
use Rattle.c_program.specs.Of.{any_below, is_product, multiplier_top}
use Rattle.c_program.proofs.ProgramNeeds.{row_needed}
use Rattle.c_writer.proofs.needed.is_row_needed_at.Goals as goal

pub has_column_product-requires : goal.has_column_product-requires
has_column_product-requires c = let s = c.requires.sound.form.sized.shaped in omega (arith, c.requires.in_range, s.dual_gains.cols, s.bounds)

pub returns : goal.returns
returns c =
    let n = numbers c.args.c.now in
    let s = c.requires.sound.form.sized.shaped in
    c.has_column_product.ensures ∙
    ap (λ (top : ℕ). any_below (λ j. is_product (at (row_of n.dual_gains j) c.args.i) top) (length n.dual_gains.rows)) c.multiplier_top.ensures ∙
    ap (λ (m : ℕ). any_below (λ j. is_product (at (row_of n.dual_gains j) c.args.i) (multiplier_top n c.args.i)) m) (s.dual_gains.rows ∙ sym s.offsets) ∙ sym (row_needed n c.args.i)
