use Rattle.std.proofs.Common.{◌≡◌, ◌∙◌, ap, ap₂, sym, arith, [], ◌∷◌, ◌++◌, List, ℤ}
use Rattle.std.proofs.lemmas.List.FromFn.{map-range_with_len_more}
use Rattle.mat_int.specs.Matrix.{Matrix, column_of}
use Rattle.mat_int.proofs.MatrixLaws.{columns_are}
use Rattle.mat_int.proofs.matrix.Mat.transpose.Goals as goal

pub loop-j-preserved : goal.loop-j-preserved
loop-j-preserved c =
    let pushed = c.in_ok-push_row.ensures.ok in
    let column = c.deref.ensures.value ∙ c.in_ok-column.ensures in
    record {
      cols = ap (λ (m : Matrix). m.cols) pushed ∙ c.loop-j.invariant.cols;
      rows = ap (λ (m : Matrix). m.rows) pushed ∙
          ap₂ (λ (rows : List (List ℤ)) (row : List ℤ). rows ++ row ∷ []) c.loop-j.invariant.rows column ∙
          sym (map-range_with_len_more (column_of c.args.self.now) 0 c.loop-j.j c.loop-j.j (omega arith));
    }

pub returns : goal.returns
returns c =
    let end : c.loop-j.j ≡ c.args.self.now.cols = omega (arith, c.cols-j-end.ensures, c.loop-j.auto.j-end, c.loop-j-test.false) in
    columns_are c.args.self.now c.loop-j.transposed c.loop-j.invariant.cols (rw (← end) c.loop-j.invariant.rows)
