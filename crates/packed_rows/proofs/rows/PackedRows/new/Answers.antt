use Rattle.std.proofs.Common.{refl, arith}
use Rattle.std.proofs.lemmas.List.Elements.{All-nil}
use Rattle.packed_rows.specs.Unpacking.{rows_in}
use Rattle.packed_rows.proofs.RowFacts.{AreWords}
use Rattle.packed_rows.proofs.rows.PackedRows.new.Goals as goal

pub invariant_of-result : goal.invariant_of-result
unfolding rows_in
invariant_of-result c = record { bytes = c.new.ensures.items; word = All-nil AreWords; few = omega arith }

pub returns : goal.returns
unfolding rows_in
returns c = refl
