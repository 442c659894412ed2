use Rattle.std.proofs.Common.{map}
use Rattle.csv.specs.Records.{fields_of}
use Rattle.mat_int.specs.Lines.{lists}
use Rattle.qp_model.specs.problem.Parts.{design_of}
use Rattle.cell_split.proofs.TextFacts.{ReadUpTo}
use Rattle.cell_split.proofs.read.lists_in.Given as goal

abbrev pub invariant-loop-i : goal.invariant-loop-i
invariant-loop-i l = ReadUpTo (design_of l.parts) (map fields_of l.records) (lists l.read.items) l.i
