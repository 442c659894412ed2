use Rattle.std.proofs.Common.{◌≢◌, ℕ, ◌≤◌, ◌<◌}
use Rattle.command_line.specs.Words.{word_of}
use Rattle.command_line.proofs.words.is_own_name.Given as goal

abbrev pub invariant-loop-i : goal.invariant-loop-i
invariant-loop-i l = (k : ℕ) → 1 ≤ k → k < l.i → k ≢ l.position → word_of l.words k ≢ word_of l.words l.position
