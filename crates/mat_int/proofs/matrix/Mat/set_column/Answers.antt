use Rattle.std.proofs.Common.{rules, ◌<◌, FitsSigned, below_more, arith, ◌∙◌, [], length}
use Rattle.std.specs.Int.{w128}
use Rattle.std.proofs.lemmas.Int.{to_z-of_z}
use Rattle.std.proofs.lemmas.List.{length-set}
use Rattle.integer_algebra.specs.Sums.{at}
use Rattle.mat_int.specs.Matrix.{row_of}
use Rattle.mat_int.proofs.MatrixLaws.{entry_here, entry_beside, entry_elsewhere, even_kept}
use Rattle.mat_int.proofs.matrix.Mat.set_column.Goals as goal

pub loop-i-preserved : goal.loop-i-preserved
loop-i-preserved c =
    let m = c.loop-i.self in
    let i = c.loop-i.i in
    let j = c.args.j in
    let inv = c.loop-i.invariant in
    let v : FitsSigned w128 (at c.args.numbers.now i) = search rules in
    let l : i < length m.rows = omega (arith, inv.rows, c.requires.long, c.loop-i-test.true, c.rows-i-end.ensures.count) in
    let k : j < length (row_of m i) = omega (arith, inv.even i [] l, c.requires.col_in) in
    rw c.set.ensures (record {
      rows = length-set m.rows i _ ∙ inv.rows;
      cols = inv.cols;
      even = even_kept m _ i j _ inv.even l;
      put = below_more _ _ (λ r o. entry_elsewhere m i j r j _ (omega arith) ∙ inv.put r o) (entry_here m i j _ l k ∙ to_z-of_z w128 _ v);
      others = λ r b ne. entry_beside m i j r b _ ne l ∙ inv.others r b ne;
    })
