use Rattle.std.proofs.Common.{◌≡◌, ℕ, ◌<◌, ◌≤◌, get_or, pos}
use Rattle.fixed_kernel.proofs.word_mat.end_of.Given as goal

abbrev pub invariant-loop-i : goal.invariant-loop-i
invariant-loop-i l = record {
  within : l.end ≤ l.i;
  zeros : (k : ℕ) → l.end ≤ k → k < l.i → get_or l.xs k (pos 0) ≡ pos 0;
}
