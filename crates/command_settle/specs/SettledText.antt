-- The text that tells where loops settle.
use Rattle.std.specs.Prelude.{ℕ, zero, suc, ◌+◌, pos, List, [], ◌∷◌, ◌++◌, codes}
use Rattle.number_text.specs.Lines.{line_of, text_of}
use Rattle.settle_check.specs.Still.{Box}

-- the line of a turn
abbrev pub turn_line : ℕ → List ℕ
turn_line turn = text_of (line_of (codes "turn") (pos turn ∷ []) ∷ [])

-- the line of coordinate i: its number from 1, and the least and the greatest number over 2^grid
abbrev pub coordinate_line : Box → ℕ → List ℕ
coordinate_line z i = text_of (line_of (codes "state") (pos (i + 1) ∷ z.low i ∷ z.high i ∷ []) ∷ [])

-- the line of row k of the cost: its number from 1, the turns from a start after which it lies there, and its least and its greatest over row_den 2^grid
abbrev pub cost_row_line : (turns : ℕ) → Box → ℕ → List ℕ
cost_row_line turns z k = text_of (line_of (codes "cost") (pos (k + 1) ∷ pos turns ∷ z.low k ∷ z.high k ∷ []) ∷ [])

-- the first lines of these
unfoldable pub lines_to : (line : ℕ → List ℕ) → ℕ → List ℕ
lines_to line zero = []
lines_to line (suc k) = lines_to line k ++ line k

-- the turn and the box of n coordinates, and m rows of the cost
abbrev pub settled_text : (turn n : ℕ) → Box → (after m : ℕ) → Box → List ℕ
settled_text turn n z after m y = (turn_line turn ++ lines_to (coordinate_line z) n) ++ lines_to (cost_row_line after y) m
