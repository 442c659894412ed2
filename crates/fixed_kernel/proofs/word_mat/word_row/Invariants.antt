use Rattle.std.proofs.Common.{◌≡◌, take, All, FitsSigned}
use Rattle.std.specs.Int.{w64}
use Rattle.fixed_kernel.proofs.word_mat.word_row.Given as goal

abbrev pub invariant-loop-entry : goal.invariant-loop-entry
invariant-loop-entry l = record { items : l.line.items ≡ take l.entry-index l.row; word : All (FitsSigned w64) l.line.items }
