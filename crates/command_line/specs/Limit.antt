-- How long a file may be.
use Rattle.std.specs.Prelude.{ℕ}

-- the most bytes of a file that holds one text
abbrev pub file_limit : ℕ
file_limit = 4194304

-- the most bytes of a file that holds the text of cells
abbrev pub cells_limit : ℕ
cells_limit = 268435456
