-- The parts into which cuts split the whole numbers from lo to hi.
use Rattle.std.specs.Prelude.{ℕ, zero, suc, ◌+◌, ◌<◌, ℤ, pos, ◌+ℤ◌, ◌≤ℤ◌, ◌<ℤ◌, List, length, get_or}
use Rattle.integer_algebra.specs.Sums.{at}

-- a cut ends a part, and the next begins one above: the least number of part k, from 0
abbrev pub part_low : ℤ → List ℤ → ℕ → ℤ
part_low lo cuts zero = lo
part_low lo cuts (suc k) = at cuts k +ℤ pos 1

-- and its greatest: the last part ends at hi
abbrev pub part_high : ℤ → List ℤ → ℕ → ℤ
part_high hi cuts k = get_or cuts k hi

-- how many parts there are
abbrev pub part_count : List ℤ → ℕ
part_count cuts = length cuts + 1

-- a number is right as cut k: it is at least the least number of the part that it ends, and below hi
pub record IsCut (lo hi : ℤ) (cuts : List ℤ) (k : ℕ) (cut : ℤ) : Type 0 where
  pub low : part_low lo cuts k ≤ℤ cut
  pub high : cut <ℤ hi

-- the cuts are in order, from lo to hi - 1
abbrev pub AreCuts : ℤ → ℤ → List ℤ → Type 0
AreCuts lo hi cuts = (k : ℕ) → k < length cuts → IsCut lo hi cuts k (at cuts k)
