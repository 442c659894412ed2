-- Where a walk stands.
use Rattle.std.specs.Prelude.{◌≡◌, ◌≤◌, All, FitsSigned, length, drop}
use Rattle.std.specs.Int.{w128}
use Rattle.packed_rows.specs.Packing.{packed_rows}
use Rattle.packed_rows.specs.declared.walk.RowWalk.TheInside.{Inside}

-- it has a word for each column, and the bytes that are left are those of the rows from the next one on
pub record StandsBefore (w : Inside) : Type 0 where
  pub long : length w.row.items ≡ w.rows.now.cols
  pub word : All (FitsSigned w128) w.row.items
  pub inside : w.next ≤ length w.rows.now.rows
  pub rest : w.rest.now ≡ packed_rows (drop w.next w.rows.now.rows)
