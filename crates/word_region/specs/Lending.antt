-- Words that are lent to be written.
use Rattle.std.specs.Prelude.{◌≡◌, ℕ, ℤ, ◌+◌, ◌<◌, ◌≤◌, List, ◌++◌, length, take, drop}
use Rattle.std.specs.Borrow.{Lends, MutBor, Fml, Array, i128}
use Rattle.integer_algebra.specs.Sums.{at}
use Rattle.word_region.specs.Words.{RegionWords}
use Rattle.word_region.specs.contracts.Region.{the_row}

-- the words with ws written over as many of them from start on; none comes or goes
abbrev pub written_over : List ℤ → ℕ → List ℤ → List ℤ
written_over words start ws = take (length words) (take start words ++ (ws ++ drop (start + length ws) words))

-- the region ends with what is left behind r in its words from start on, and is else as it was
abbrev pub LendsCells : MutBor RegionWords → ℕ → MutBor (List ℤ) → Fml
LendsCells region start r = Lends the_row (Array i128 0) region r (λ ws. record region.now { words = written_over region.now.words start ws })

-- from start on the words became ws, and no other word changed
pub record IsWrittenOver (old new : List ℤ) (start : ℕ) (ws : List ℤ) : Type 0 where
  pub size : length new ≡ length old
  pub inside : (k : ℕ) → k < length ws → at new (start + k) ≡ at ws k
  pub below : (k : ℕ) → k < start → at new k ≡ at old k
  pub above : (k : ℕ) → start + length ws ≤ k → at new k ≡ at old k

-- what is lent within the words comes back there, and all other words stay
abbrev pub LendingLaw : Type 0
LendingLaw = (words ws : List ℤ) (start : ℕ) → start + length ws ≤ length words → IsWrittenOver words (written_over words start ws) start ws
