use Rattle.csv.specs.Records.{fields_of}
use Rattle.cell_split.proofs.RecordFacts.{ReadCuts}
use Rattle.cell_split.proofs.record.cuts_behind.Given as goal

abbrev pub invariant-loop-i : goal.invariant-loop-i
invariant-loop-i l = ReadCuts l.lo l.hi (fields_of l.row) l.cuts.items l.least l.i
