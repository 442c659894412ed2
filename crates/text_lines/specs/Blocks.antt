-- Blocks of lines in their order: those of one word together.
use Rattle.std.specs.Prelude.{ℕ, ◌+◌, ℤ, List, [], ◌∷◌, ◌++◌, map, replicate}
use Rattle.std.specs.Borrow.{Bor}
use Rattle.text_lines.specs.Lines.{Keyed, keyed_line, Place, place}

-- lists one after the other
abbrev pub chained : {X : Type 0} → List (List X) → List X
chained [] = []
chained (xs ∷ xss) = xs ++ chained xss

-- a line for each row
abbrev pub row_lines : List ℕ → List (List ℤ) → List Keyed
row_lines key rows = map (keyed_line key) rows

-- a word, how many lines have it, and how many numbers each of them has
abbrev pub Block : Type 0
Block = List ℕ × ℕ × ℕ

abbrev pub block_places : Block → List Place
block_places b = replicate b.1 (place b.0 b.2)

-- how many lines they are
abbrev pub total_rows : List Block → ℕ
total_rows [] = 0
total_rows (b ∷ bs) = b.1 + total_rows bs

-- the places of the lines of blocks
abbrev pub spread : List Block → List Place
spread bs = chained (map block_places bs)

-- ---- as the code has them

abbrev pub Row : Type 0
Row = Bor (List ℕ) × ℕ × ℕ

abbrev pub blocks_of : List Row → List Block
blocks_of bs = map (λ b. (b.0.now, b.1, b.2)) bs
