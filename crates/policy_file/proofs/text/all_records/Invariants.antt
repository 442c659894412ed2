use Rattle.std.proofs.Common.{◌≡◌, ℕ, List, ◌++◌, map}
use Rattle.csv.specs.Records.{fields_of}
use Rattle.policy_file.specs.Records.{records_of}
use Rattle.policy_file.specs.RecordsLeft.{HasLeft}
use Rattle.policy_file.proofs.text.all_records.Given as goal

abbrev pub invariant-loop-row : goal.invariant-loop-row
invariant-loop-row l = (left : List (List (List ℕ))) × HasLeft l.row-iterator left × (records_of l.text ≡ map fields_of l.rows.items ++ left)
