-- The cells of a box whose coordinates are split: all combinations of parts.
use Rattle.std.specs.Prelude.{◌≡◌, ℕ, zero, suc, ◌-◌, ◌*◌, ◌/◌, ◌%◌, ◌<◌, ◌≤◌, ℤ, ◌≤ℤ◌, List, [], ◌∷◌, length, get_or}
use Rattle.qp_model.specs.problem.Design.{Design}
use Rattle.qp_model.specs.problem.Box.{IsGridState}
use Rattle.cell_split.specs.Cuts.{part_low, part_high, part_count, AreCuts}

-- the cuts of coordinate i, from 0
abbrev pub cuts_of : List (List ℤ) → ℕ → List ℤ
cuts_of lists i = get_or lists i []

-- how many cells there are
unfoldable pub cell_count : List (List ℤ) → ℕ
cell_count [] = 1
cell_count (cuts ∷ lists) = part_count cuts * cell_count lists

-- the part of coordinate i, from 0, in the cell before which there are k others: the first coordinate runs fastest
unfoldable pub part_of : List (List ℤ) → ℕ → ℕ → ℕ
part_of [] k i = 0
part_of (cuts ∷ lists) k zero = k % part_count cuts
part_of (cuts ∷ lists) k (suc i) = part_of lists (k / part_count cuts) i

-- the box of cell k, from 1
abbrev pub cell_low : (ℕ → ℤ) → List (List ℤ) → ℕ → ℕ → ℤ
cell_low low lists k i = part_low (low i) (cuts_of lists i) (part_of lists (k - 1) i)

abbrev pub cell_high : (ℕ → ℤ) → List (List ℤ) → ℕ → ℕ → ℤ
cell_high high lists k i = part_high (high i) (cuts_of lists i) (part_of lists (k - 1) i)

-- the design of cell k
abbrev pub cell_of : Design → List (List ℤ) → ℕ → Design
cell_of d lists k = record d { low = cell_low d.low lists k; high = cell_high d.high lists k }

-- a list of cuts for each coordinate
pub record AreCutsFor (d : Design) (lists : List (List ℤ)) : Type 0 where
  pub count : length lists ≡ d.states
  pub each : (i : ℕ) → i < d.states → AreCuts (d.low i) (d.high i) (cuts_of lists i)

-- there is a cell k
pub record IsCell (lists : List (List ℤ)) (k : ℕ) : Type 0 where
  pub low : 1 ≤ k
  pub high : k ≤ cell_count lists

-- the box of cell k has a state, and each of its states is one of the box
pub record LiesInside (d : Design) (lists : List (List ℤ)) (k : ℕ) : Type 0 where
  pub low : (i : ℕ) → i < d.states → d.low i ≤ℤ cell_low d.low lists k i
  pub some : (i : ℕ) → i < d.states → cell_low d.low lists k i ≤ℤ cell_high d.high lists k i
  pub high : (i : ℕ) → i < d.states → cell_high d.high lists k i ≤ℤ d.high i

-- cell k, and no other, has this state
pub record IsServed (d : Design) (lists : List (List ℤ)) (xi : ℕ → ℤ) : Type 0 where
  pub cell : ℕ
  pub is_cell : IsCell lists cell
  pub here : IsGridState (cell_of d lists cell) xi
  pub alone : (k : ℕ) → IsCell lists k → IsGridState (cell_of d lists k) xi → k ≡ cell

-- cuts split the box: each cell's box lies inside it, no two have a state in common, and each grid state of the box lies in exactly one
pub record Splits (d : Design) (lists : List (List ℤ)) : Type 0 where
  pub inside : (k : ℕ) → IsCell lists k → LiesInside d lists k
  pub apart : (k l : ℕ) (xi : ℕ → ℤ) → IsCell lists k → IsCell lists l → IsGridState (cell_of d lists k) xi → IsGridState (cell_of d lists l) xi → k ≡ l
  pub served : (xi : ℕ → ℤ) → IsGridState d xi → IsServed d lists xi

abbrev pub SplitLaw : Type 0
SplitLaw = (d : Design) (lists : List (List ℤ)) → ((i : ℕ) → i < d.states → d.low i ≤ℤ d.high i) → AreCutsFor d lists → Splits d lists
