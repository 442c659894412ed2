use Rattle.std.proofs.Common.{length, arith, rules, IsTrue, refl, below_more}
use Rattle.hessian_check.specs.Curvature.{HasPassingRoot}
use Rattle.hessian_check.specs.MatrixRoom.{matrix_at}
use Rattle.hessian_check.proofs.MatrixLaws.{gap_turned}
use Rattle.hessian_check.proofs.RowLaws.{not_true}
use Rattle.hessian_check.proofs.SameLaws.{certified_told, found, has_same}
use Rattle.hessian_check.proofs.choice.first_passing.Goals as goal

pub has_passing_root-requires-clause-symmetric : goal.has_passing_root-requires-clause-symmetric
has_passing_root-requires-clause-symmetric c =
    let g = c.args.matrices.now in
    let m = c.in_ok-matrix.matrix in
    let e = c.in_ok-matrix.ensures.rows in
    rw e (gap_turned (length g.cost.rows) g c.loop-s.s m refl (has_same (length g.cost.rows) (matrix_at g c.loop-s.s) m c.in_ok-matrix.ensures))

pub returns-then-branch : goal.returns-then-branch
returns-then-branch c =
    let n = length c.args.matrices.now.cost.rows in
    let f = matrix_at c.args.matrices.now in
    let t : IsTrue c.in_ok-has_passing_root.field-0 = rw c.if-branch.true (search rules) in
    let told = certified_told n (f c.loop-s.s) c.in_ok-matrix.matrix c.in_ok-has_passing_root.field-0 c.in_ok-matrix.ensures c.in_ok-has_passing_root.ensures in
    found (λ s. HasPassingRoot n (f s)) c.loop-s.s c.args.end (omega arith) c.loop-s.invariant (told.0 t)

pub loop-s-preserved : goal.loop-s-preserved
loop-s-preserved c =
    let n = length c.args.matrices.now.cost.rows in
    let f = matrix_at c.args.matrices.now in
    let told = certified_told n (f c.loop-s.s) c.in_ok-matrix.matrix c.in_ok-has_passing_root.field-0 c.in_ok-matrix.ensures c.in_ok-has_passing_root.ensures in
    below_more _ _ c.loop-s.invariant (λ d. not_true (rw c.if-branch.false at (told.1 d)))

pub returns : goal.returns
returns c = λ k l. c.loop-s.invariant k (omega arith)
