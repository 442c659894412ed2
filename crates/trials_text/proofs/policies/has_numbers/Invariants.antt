use Rattle.std.proofs.Common.{◌≡◌}
use Rattle.trials_text.proofs.policies.has_numbers.Given as goal

abbrev pub invariant-loop : goal.invariant-loop
invariant-loop l = record { next : l.walk.next ≡ l.counter; rows : l.walk.rows ≡ l.states }
