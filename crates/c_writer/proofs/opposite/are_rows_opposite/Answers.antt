use Rattle.std.proofs.Common.{◌∙◌, ℕ, length, ap, sym, arith}
use Rattle.integer_algebra.specs.Sums.{at}
use Rattle.mat_int.specs.Matrix.{row_of}
use Rattle.qp_model.specs.machine.Controller.{numbers}
use Rattle.c_program.specs.Of.{are_negated}
use Rattle.c_writer.proofs.Lists.{three, negated_same}
use Rattle.c_writer.proofs.opposite.are_rows_opposite.Goals as goal

pub returns : goal.returns
returns c =
    let n = numbers c.args.c.now in
    let s = c.requires.sound.form.sized.shaped in
    three c.both-2.result c.both.result c.have_one_exponent-exponents.result c.are_negated-rows.result c.are_columns_negated-columns.result _ _ _ c.both-2.ensures c.both.ensures
    c.have_one_exponent-exponents.ensures
    (negated_same _ _ (row_of n.plan_rows c.args.k) (row_of n.plan_rows c.args.i) (length n.offsets) c.are_negated-rows.result c.row.ensures.value c.row-2.ensures.value
    (omega (arith, c.row.ensures.len, s.plan_rows.cols, s.offsets)) c.are_negated-rows.ensures)
    (c.are_columns_negated-columns.ensures ∙
    ap (λ (m : ℕ). are_negated (λ j. at (row_of n.dual_gains j) c.args.k) (λ j. at (row_of n.dual_gains j) c.args.i) m) (s.dual_gains.rows ∙ sym s.offsets))
