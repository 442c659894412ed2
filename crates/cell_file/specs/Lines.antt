-- The lines of a text of cells.
use Rattle.std.specs.Prelude.{◌≡◌, ℕ, suc, ◌+◌, ◌≤◌, ◌<◌, pos, List, [], ◌∷◌, ◌++◌, length, map, codes, take}
use Rattle.qp_model.specs.machine.Controller.{Numbers}
use Rattle.text_lines.specs.Lines.{Keyed, keyed_line}
use Rattle.text_lines.specs.Blocks.{chained}
use Rattle.controller_text.specs.Lines.{keyed_lines}
use Rattle.cell_file.specs.Cells.{AreCells}
use Rattle.cell_file.specs.declared.place.Place.{Place}

-- the first says how many cells there are; the lines of each controller, and an end
abbrev pub head_line : ℕ → Keyed
head_line count = keyed_line (codes "mpc-cells") (pos count ∷ [])

abbrev pub end_line : Keyed
end_line = keyed_line (codes "end") []

abbrev pub rest_lines : List Numbers → List Keyed
rest_lines cells = chained (map keyed_lines cells) ++ end_line ∷ []

abbrev pub cells_lines : List Numbers → List Keyed
cells_lines cells = head_line (length cells) ∷ rest_lines cells

-- they are all lines of a text of cells
pub record IsCellsWhole (ls : List Keyed) : Type 0 where
  pub cells : List Numbers
  pub are : AreCells cells
  pub lines : cells_lines cells ≡ ls

-- ---- where lines stand
-- how many lines are before those of cell k, from 0
abbrev pub lines_before : List Numbers → ℕ → ℕ
lines_before cells k = suc (length (chained (map keyed_lines (take k cells))))

-- so many first lines have this place: the cells of which they have all lines, and the index behind these
pub record IsPlace (cells : List Numbers) (n : ℕ) (p : Place) : Type 0 where
  pub few : p.cells ≤ length cells
  pub start : p.start ≡ lines_before cells p.cells
  pub within : p.start ≤ n
  pub next : p.cells < length cells → n < lines_before cells (p.cells + 1)
