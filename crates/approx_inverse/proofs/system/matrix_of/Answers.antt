use Rattle.std.proofs.Common.{rules, ◌+◌, FitsSigned, length, arith, refl, ap, ◌∙◌}
use Rattle.std.specs.Int.{w128}
use Rattle.std.proofs.lemmas.Int.{to_z-of_z}
use Rattle.std.proofs.lemmas.List.{length_push}
use Rattle.integer_algebra.specs.Sizes.{size}
use Rattle.mat_int.specs.Matrix.{Matrix}
use Rattle.qp_model.specs.form.Columns.{solve_matrix}
use Rattle.condensed_form.specs.Form.{held}
use Rattle.qp_model.proofs.SizeFacts.{greatest_term}
use Rattle.approx_inverse.proofs.SystemLaws.{matrix_more}
use Rattle.std.proofs.lemmas.Result.{IfOk-from_err}
use Rattle.approx_inverse.proofs.system.matrix_of.Goals as goal

pub returns-then-not-scale-clause-err : goal.returns-then-not-scale-clause-err
returns-then-not-scale-clause-err c =
    let fits : FitsSigned w128 c.args.c.now.limit_den = search rules in
    let n = (held c.args.c.now).entries in
    let w = (rw (c.copy_from_slice.ensures.after, c.row.ensures.len, c.requires.solvable.shapes.hess.cols, c.row.ensures.value, to_z-of_z w128 _ fits)
    at c.if-not-scale.ensures.wide) refl in
    (refl, omega (arith, w, greatest_term c.loop-i.i n (λ i. size n (solve_matrix (held c.args.c.now) i)) (omega arith)))

pub loop-i-preserved : goal.loop-i-preserved
loop-i-preserved c =
    let fits : FitsSigned w128 c.args.c.now.limit_den = search rules in
    let old = c.loop-i.mat in
    let inv = c.loop-i.invariant in
    let e = c.in_ok-push_row.ensures.ok in
    let made = rw (c.copy_from_slice.ensures.after, c.row.ensures.len, c.requires.solvable.shapes.hess.cols, c.row.ensures.value, to_z-of_z w128 _ fits)
    at c.if-not-scale.ensures.done in
    record {
      rows = ap (λ (x : Matrix). length x.rows) e ∙ length_push old.rows c.scale.new.xs ∙ ap (λ n. n + 1) inv.rows;
      cols = ap (λ (x : Matrix). x.cols) e ∙ inv.cols;
      entry = matrix_more (held c.args.c.now) old c.push_row.new.self c.scale.new.xs c.loop-i.i e inv.rows inv.entry (made refl);
    }

pub returns-in_err-mat-clause-ok : goal.returns-in_err-mat-clause-ok
returns-in_err-mat-clause-ok c = IfOk-from_err c.from_residual.result _ c.from_residual.ensures.0

pub returns-then-not-scale-clause-ok : goal.returns-then-not-scale-clause-ok
returns-then-not-scale-clause-ok c = tt

pub returns-in_err-push_row-clause-ok : goal.returns-in_err-push_row-clause-ok
returns-in_err-push_row-clause-ok c = IfOk-from_err c.from_residual-in_err-push_row.result _ c.from_residual-in_err-push_row.ensures.0

pub returns-clause-err : goal.returns-clause-err
returns-clause-err c = tt
