use Rattle.std.proofs.Common.{◌↔◌, length, rules, IsTrue, true, false, refl, inl}
use Rattle.integer_algebra.specs.Matrices.{IsDominant}
use Rattle.mat_int.specs.Matrix.{entry_of}
use Rattle.hessian_check.specs.MatrixRoom.{matrix_at}
use Rattle.hessian_check.proofs.MatrixLaws.{all_narrow, gap_turned, row_room}
use Rattle.hessian_check.proofs.RowLaws.{not_true}
use Rattle.hessian_check.proofs.LoweringLaws.{accepted_told}
use Rattle.hessian_check.proofs.SameLaws.{dominant_told, has_same}
use Rattle.hessian_check.proofs.row_exponents.is_accepted.Goals as goal

pub unwrap-requires : goal.unwrap-requires
unwrap-requires c =
    let g = c.args.matrices.now in
    let n = length g.cost.rows in
    let f = matrix_at g c.args.s in
    let m = c.in_ok-matrix.matrix in
    c.is_dominant.ensures.wide.1 (all_narrow n f m c.in_ok-matrix.ensures (row_room n g c.args.s m refl (has_same n f m c.in_ok-matrix.ensures) c.requires.room))

pub has_passing_root-requires-clause-symmetric : goal.has_passing_root-requires-clause-symmetric
has_passing_root-requires-clause-symmetric c =
    let g = c.args.matrices.now in
    let n = length g.cost.rows in
    let m = c.in_ok-matrix.matrix in
    rw c.in_ok-matrix.ensures.rows (gap_turned n g c.args.s m refl (has_same n (matrix_at g c.args.s) m c.in_ok-matrix.ensures))

pub returns-then-unwrap : goal.returns-then-unwrap
returns-then-unwrap c =
    let n = length c.args.matrices.now.cost.rows in
    let m = c.in_ok-matrix.matrix in
    let t : IsTrue true = search rules in
    let e : IsTrue true ↔ IsDominant (length m.rows) (entry_of m) = rw c.if-unwrap.ensures at c.is_dominant.ensures.value in
    (λ y. inl ((dominant_told n (matrix_at c.args.matrices.now c.args.s) m true c.in_ok-matrix.ensures e).0 t), λ y. t)

pub returns : goal.returns
returns c =
    let n = length c.args.matrices.now.cost.rows in
    let f = matrix_at c.args.matrices.now c.args.s in
    let m = c.in_ok-matrix.matrix in
    let e : IsTrue false ↔ IsDominant (length m.rows) (entry_of m) = rw c.if-unwrap.ensures at c.is_dominant.ensures.value in
    accepted_told n f m c.in_ok-matrix.ensures (λ d. not_true ((dominant_told n f m false c.in_ok-matrix.ensures e).1 d)) c.has_passing_root.result c.has_passing_root.ensures
