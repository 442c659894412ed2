use Rattle.std.proofs.Common.{◌≡◌, take, ◌++◌, All, FitsSigned}
use Rattle.std.specs.Int.{w128}
use Rattle.packed_rows.specs.Packing.{packed_row}
use Rattle.packed_rows.proofs.packing.push_numbers.Given as goal

abbrev pub invariant-loop-z : goal.invariant-loop-z
invariant-loop-z l = record { items : l.bytes.items ≡ l.fn.bytes.items ++ packed_row (take l.z-index l.row); word : All (FitsSigned w128) (take l.z-index l.row) }
