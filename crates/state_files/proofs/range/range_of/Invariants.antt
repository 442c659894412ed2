use Rattle.state_files.proofs.RangeFacts.{AreRead}
use Rattle.state_files.proofs.range.range_of.Given as goal

abbrev pub invariant-loop-i : goal.invariant-loop-i
invariant-loop-i l = AreRead l.bytes l.n l.range l.i
