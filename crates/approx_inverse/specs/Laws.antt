-- What holds of every good solution, however it was found.
use Rattle.std.specs.Prelude.{ℕ, ◌+◌, ◌*◌, ◌^◌, ◌<◌, ℤ, pos, ◌+ℤ◌, ◌*ℤ◌, ◌≤ℤ◌}
use Rattle.integer_algebra.specs.Sums.{total}
use Rattle.integer_algebra.specs.Bounds.{absolute}
use Rattle.integer_algebra.specs.Sizes.{size}
use Rattle.qp_model.specs.form.Convex.{IsConvex}
use Rattle.qp_model.specs.form.GoodSolution.{IsGood}

-- twice the floor times an entry is at most 2^(f+1) times the column's absolute sum and the trace of the matrix
abbrev pub GoodEntryLaw : Type 0
GoodEntryLaw = (n : ℕ) (h : ℕ → ℕ → ℤ) (floor : ℤ) (f : ℕ) (c x : ℕ → ℤ) → IsConvex n h floor → IsGood n h f c x →
    (j : ℕ) → j < n → (pos 2 *ℤ floor *ℤ absolute (x j)) ≤ℤ (pos (2 ^ (f + 1) * size n c) +ℤ total n (λ i. h i i))
