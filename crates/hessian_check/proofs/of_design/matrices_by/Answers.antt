use Rattle.std.proofs.Common.{refl}
use Rattle.qp_model.specs.form.Class.{product_row_in}
use Rattle.qp_model.specs.problem.Parts.{design_of}
use Rattle.hessian_check.proofs.FormMatrices.{factors_of, matrices_are, matrices_held}
use Rattle.hessian_check.proofs.RowMatrices.{once_matrix_is, once_room}
use Rattle.hessian_check.proofs.of_design.matrices_by.Goals as goal

pub overflow_mul-result : goal.overflow_mul-result
overflow_mul-result c = (factors_of c.requires.form.fine c.requires.form.parts c.args.c.now c.requires.form.form).cost.fits

pub overflow_mul-result-2 : goal.overflow_mul-result-2
overflow_mul-result-2 c = (factors_of c.requires.form.fine c.requires.form.parts c.args.c.now c.requires.form.form).scale.fits

pub overflow_mul-result-3 : goal.overflow_mul-result-3
overflow_mul-result-3 c = (factors_of c.requires.form.fine c.requires.form.parts c.args.c.now c.requires.form.form).rows.fits

pub row_matrix-requires-clause-room : goal.row_matrix-requires-clause-room
row_matrix-requires-clause-room c =
    once_room c.requires.form.fine c.requires.form.parts c.args.c.now c.requires.form.form c.args.sums.now.mid c.args.sums.now.rad c.requires.sums

pub invariant_of-result : goal.invariant_of-result
invariant_of-result c =
    let fine = c.requires.form.fine in
    let p = c.requires.form.parts in
    let f = c.requires.form.form in
    let s = c.args.sums.now in
    let k = factors_of fine p c.args.c.now f in
    record {
      sound = matrices_held fine p c.args.c.now f (λ l. 1) (product_row_in fine (design_of p)) c.in_ok-cost_matrix.field-0 c.in_ok-row_matrix.field-0 (c.in_ok-cost_matrix.ensures fine p f)
          (once_matrix_is fine p c.args.c.now f s.mid s.rad c.requires.sums s.sound c.in_ok-row_matrix.field-0 c.in_ok-row_matrix.ensures) _ _ k.cost.is k.rows.is;
    }

pub returns-clause-matrices : goal.returns-clause-matrices
returns-clause-matrices c = λ fine p f.
    let s = c.args.sums.now in
    let k = factors_of fine p c.args.c.now f in
    matrices_are fine (design_of p) (λ l. 1) (product_row_in fine (design_of p)) c.in_ok-cost_matrix.field-0 c.in_ok-row_matrix.field-0 (c.in_ok-cost_matrix.ensures fine p f)
    (once_matrix_is fine p c.args.c.now f s.mid s.rad c.requires.sums s.sound c.in_ok-row_matrix.field-0 c.in_ok-row_matrix.ensures) _ refl refl k.cost.is k.rows.is

pub returns-clause-cost : goal.returns-clause-cost
returns-clause-cost c = λ fine p f.
    let k = factors_of fine p c.args.c.now f in
    record { cost = c.in_ok-cost_matrix.ensures fine p f; cost_factor = k.cost.is; row_factor = k.rows.is }
