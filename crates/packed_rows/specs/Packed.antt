-- Packed rows are the packing of what they hold.
use Rattle.std.specs.Prelude.{◌≡◌, ◌≤◌, ◌^◌, ℤ, List, All, FitsSigned}
use Rattle.std.specs.Int.{w128}
use Rattle.packed_rows.specs.Packing.{packed_rows}
use Rattle.packed_rows.specs.Unpacking.{rows_in}
use Rattle.packed_rows.specs.declared.rows.PackedRows.TheInside.{Inside}

-- the rows that the bytes hold
abbrev pub held_rows : Inside → List (List ℤ)
held_rows p = rows_in p.cols p.rows p.bytes.items

-- the bytes are these rows one after the other, and no more
pub record IsPacked (p : Inside) : Type 0 where
  pub bytes : p.bytes.items ≡ packed_rows (held_rows p)
  pub word : All (All (FitsSigned w128)) (held_rows p)
  pub few : p.rows ≤ 2 ^ 32
