use Rattle.design_files.proofs.FurtherLaws.{six_hold, one_fails}
use Rattle.design_files.proofs.keys.refuse_further_keys.Goals as goal

pub returns-then-only_known : goal.returns-then-only_known
returns-then-only_known c =
    six_hold _ _ _ _ _ _ _ _ _ _ _ _ c.has_only.ensures c.table_has_only.ensures c.table_has_only-2.ensures c.table_has_only-3.ensures c.table_has_only-4.ensures
    c.table_has_only-5.ensures c.if-only_known.true

pub returns-else-only_known : goal.returns-else-only_known
returns-else-only_known c =
    one_fails _ _ _ _ _ _ _ _ _ _ _ _ c.has_only.ensures c.table_has_only.ensures c.table_has_only-2.ensures c.table_has_only-3.ensures c.table_has_only-4.ensures
    c.table_has_only-5.ensures c.if-only_known.false
