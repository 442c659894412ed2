use Rattle.std.proofs.Common.{◌≡◌, length}
use Rattle.policy_file.specs.Layout.{rule_of}
use Rattle.policy_file.proofs.MatrixFacts.{Filled}
use Rattle.policy_file.proofs.HeadedFacts.{HoldsHeaded}
use Rattle.policy_file.proofs.headed.read_headed.Given as goal

abbrev pub invariant-loop-i : goal.invariant-loop-i
invariant-loop-i l = record {
  heads : length l.heads.items ≡ l.i;
  rows : Filled (HoldsHeaded (rule_of l.layout) l.bytes l.width l.heads.items) l.rows l.width l.i;
}
