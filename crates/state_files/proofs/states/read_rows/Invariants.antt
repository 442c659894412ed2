use Rattle.policy_file.specs.Layout.{rule_of}
use Rattle.policy_file.proofs.LeftFacts.{ReadSoFar}
use Rattle.state_files.proofs.states.read_rows.Given as goal

abbrev pub invariant-loop-record : goal.invariant-loop-record
invariant-loop-record l = ReadSoFar (rule_of l.layout) l.width l.bytes l.record-iterator l.packed
