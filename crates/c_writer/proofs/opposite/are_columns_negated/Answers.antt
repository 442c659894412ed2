use Rattle.std.proofs.Common.{◌≡◌, ◌↔◌, ◌+ℤ◌, pos, ℤ, List, IsTrue, subst}
use Rattle.integer_algebra.specs.Sums.{at}
use Rattle.mat_int.specs.Matrix.{row_of}
use Rattle.c_writer.proofs.Lists.{negated_more}
use Rattle.c_writer.proofs.opposite.are_columns_negated.Goals as goal

pub loop-j-preserved : goal.loop-j-preserved
loop-j-preserved c =
    negated_more (λ j. at (row_of c.args.a.now j) c.args.k) (λ j. at (row_of c.args.a.now j) c.args.i) c.loop-j.j c.loop-j.negated c.both-negated.result c.are_at_negated-next.result
    c.loop-j.invariant
    (subst (λ (row : List ℤ). IsTrue c.are_at_negated-next.result ↔ (at row c.args.k +ℤ at row c.args.i ≡ pos 0)) c.row.ensures.value c.are_at_negated-next.ensures)
    c.both-negated.ensures
