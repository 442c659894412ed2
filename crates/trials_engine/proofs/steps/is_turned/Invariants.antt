use Rattle.std.proofs.Common.{◌≡◌, ◌<◌, ℕ}
use Rattle.mat_int.specs.Matrix.{entry_of}
use Rattle.trials_engine.proofs.steps.is_turned.Given as goal

abbrev pub invariant-loop-j : goal.invariant-loop-j
invariant-loop-j l = (k : ℕ) → k < l.j → entry_of l.mat l.i k ≡ entry_of l.mat k l.i
