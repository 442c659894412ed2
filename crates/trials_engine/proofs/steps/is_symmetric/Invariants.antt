use Rattle.std.proofs.Common.{◌≡◌, ◌<◌, ℕ, length}
use Rattle.mat_int.specs.Matrix.{entry_of}
use Rattle.trials_engine.proofs.steps.is_symmetric.Given as goal

abbrev pub invariant-loop-i : goal.invariant-loop-i
invariant-loop-i l = (k j : ℕ) → k < l.i → j < length l.mat.rows → entry_of l.mat k j ≡ entry_of l.mat j k
