use Rattle.scaled_run.proofs.ListFacts.{lent_holds}
use Rattle.scaled_condense.proofs.ColumnFacts.{enclosures_written}
use Rattle.scaled_condense.proofs.columns.put_column.Goals as goal

pub returns : goal.returns
returns c = λ height width f inside held before.
    enclosures_written c.args.mat.now.mid c.args.mat.now.rad _ _ height width c.args.j f c.deref.result.now c.set_column.ensures.mid c.set_column.ensures.rad inside
    (lent_holds c.deref.ensures.value (rw c.in_ok-column.was at held)) before
