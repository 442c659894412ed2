use Rattle.std.proofs.Common.{◌↔◌, length, arith, rules, IsTrue, true, false, refl, below_more}
use Rattle.integer_algebra.specs.Matrices.{IsDominant}
use Rattle.mat_int.specs.Matrix.{entry_of}
use Rattle.hessian_check.specs.MatrixRoom.{matrix_at}
use Rattle.hessian_check.proofs.MatrixLaws.{all_narrow, row_room}
use Rattle.hessian_check.proofs.RowLaws.{not_true}
use Rattle.hessian_check.proofs.SameLaws.{dominant_told, found, has_same}
use Rattle.hessian_check.proofs.choice.first_dominant.Goals as goal

pub unwrap-requires : goal.unwrap-requires
unwrap-requires c =
    let g = c.args.matrices.now in
    let n = length g.cost.rows in
    let f = matrix_at g c.loop-s.s in
    let m = c.in_ok-matrix.matrix in
    c.is_dominant.ensures.wide.1 (all_narrow n f m c.in_ok-matrix.ensures (row_room n g c.loop-s.s m refl (has_same n f m c.in_ok-matrix.ensures) (c.requires.room c.loop-s.s (omega arith))))

pub returns-then-unwrap : goal.returns-then-unwrap
returns-then-unwrap c =
    let n = length c.args.matrices.now.cost.rows in
    let f = matrix_at c.args.matrices.now in
    let m = c.in_ok-matrix.matrix in
    let t : IsTrue true = search rules in
    let e : IsTrue true ↔ IsDominant (length m.rows) (entry_of m) = rw c.if-unwrap.ensures at c.is_dominant.ensures.value in
    found (λ s. IsDominant n (f s)) c.loop-s.s c.args.end (omega arith) c.loop-s.invariant ((dominant_told n (f c.loop-s.s) m true c.in_ok-matrix.ensures e).0 t)

pub loop-s-preserved : goal.loop-s-preserved
loop-s-preserved c =
    let n = length c.args.matrices.now.cost.rows in
    let f = matrix_at c.args.matrices.now in
    let m = c.in_ok-matrix.matrix in
    let e : IsTrue false ↔ IsDominant (length m.rows) (entry_of m) = rw c.if-unwrap.ensures at c.is_dominant.ensures.value in
    below_more _ _ c.loop-s.invariant (λ d. not_true ((dominant_told n (f c.loop-s.s) m false c.in_ok-matrix.ensures e).1 d))
