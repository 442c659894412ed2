-- Rows in words of 64 bits.
use Rattle.std.specs.Prelude.{◌≡◌, ℕ, ◌≤◌, ◌<◌, ℤ, pos, List, All, FitsSigned, length}
use Rattle.std.specs.Int.{w64}
use Rattle.integer_algebra.specs.Sums.{at}
use Rattle.fixed_kernel.specs.declared.word_mat.WordRow.TheInside.{Inside}

-- each number fits the word, and outside of the span each is 0
pub record IsSpanned (r : Inside) : Type 0 where
  pub word : All (FitsSigned w64) r.numbers.items
  pub order : r.from ≤ r.to
  pub inside : r.to ≤ length r.numbers.items
  pub before : (k : ℕ) → k < r.from → at r.numbers.items k ≡ pos 0
  pub behind : (k : ℕ) → r.to ≤ k → at r.numbers.items k ≡ pos 0

-- a row has one number for each column
abbrev pub HasColumns : ℕ → List ℤ → Type 0
HasColumns cols row = length row ≡ cols
