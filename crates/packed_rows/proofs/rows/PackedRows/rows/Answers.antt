use Rattle.std.proofs.Common.{◌≡◌, subst, length, sym, ap, ◌∙◌}
use Rattle.std.specs.Prelude.{All}
use Rattle.mat_int.specs.Matrix.{Matrix}
use Rattle.packed_rows.proofs.RowFacts.{AreWords, rows_count, rows_even}
use Rattle.packed_rows.proofs.rows.PackedRows.rows.Goals as goal

pub returns-clause-count : goal.returns-clause-count
returns-clause-count c = sym (rows_count c.self.inside.cols c.self.inside.rows c.self.inside.bytes.items) ∙ ap (λ (m : Matrix). length m.rows) c.self.view_is

pub returns-clause-even : goal.returns-clause-even
returns-clause-even c = subst (λ (m : Matrix). All (λ row. length row ≡ m.cols) m.rows) c.self.view_is (rows_even c.self.inside.cols c.self.inside.rows c.self.inside.bytes.items)

pub returns-clause-word : goal.returns-clause-word
returns-clause-word c = subst (λ (m : Matrix). All AreWords m.rows) c.self.view_is c.self.invariant.word
