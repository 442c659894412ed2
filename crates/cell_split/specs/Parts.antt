-- The parts of a cell.
use Rattle.std.specs.Prelude.{◌≡◌, ℕ, ◌<◌, ◌≤◌, ◌^◌, ℤ, pos, ◌<ℤ◌, List, length, get_or}
use Rattle.integer_algebra.specs.Sums.{at}
use Rattle.cell_split.specs.Cells.{cuts_of, part_of}

-- these are the parts of the cell before which there are k others
pub record AreParts (lists : List (List ℤ)) (k : ℕ) (parts : List ℕ) : Type 0 where
  pub long : length parts ≡ length lists
  pub each : (i : ℕ) → i < length lists → get_or parts i 0 ≡ part_of lists k i

-- a part of each coordinate
pub record AreSized (ends : List ℤ) (lists : List (List ℤ)) (parts : List ℕ) : Type 0 where
  pub count : length ends ≡ length lists
  pub long : length parts ≡ length lists
  pub inside : (i : ℕ) → i < length lists → get_or parts i 0 ≤ length (cuts_of lists i)

-- each cut is below 2^31
abbrev pub AreBelow : List (List ℤ) → Type 0
AreBelow lists = (i k : ℕ) → i < length lists → k < length (cuts_of lists i) → at (cuts_of lists i) k <ℤ pos (2 ^ 31)
