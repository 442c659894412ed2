use Rattle.std.proofs.Common.{◌≡◌, take, All, FitsSigned}
use Rattle.std.specs.Int.{w128}
use Rattle.mat_int.proofs.matrix.copied_row.Given as goal

abbrev pub invariant-loop-entry : goal.invariant-loop-entry
invariant-loop-entry l = record { items : l.line.items ≡ take l.entry-index l.row; word : All (FitsSigned w128) l.line.items }
