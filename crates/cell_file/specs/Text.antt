-- The one text of the controllers of cells.
use Rattle.std.specs.Prelude.{◌≡◌, ℕ, pos, List, [], ◌∷◌, ◌++◌, length, map, All, codes}
use Rattle.std.specs.List.{flat_map}
use Rattle.number_text.specs.Lines.{line_of, text_of}
use Rattle.qp_model.specs.machine.Controller.{Numbers}
use Rattle.qp_model.specs.text.ControllerText.{controller_text}
use Rattle.text_lines.specs.FirstLine.{IsBadLineOf}
use Rattle.controller_file.specs.FirstLine.{IsEitherController}
use Rattle.controller_file.specs.AnyText.{any_numbers, IsSafe}
use Rattle.controller_file.specs.declared.any_controller.AnyController.{AnyController}
use Rattle.cell_file.specs.Cells.{AreCells}

-- a line that says how many, the text of each controller, and an end
abbrev pub cells_text : List Numbers → List ℕ
cells_text cells = text_of (line_of (codes "mpc-cells") (pos (length cells) ∷ []) ∷ []) ++ (flat_map controller_text cells ++ text_of (codes "end" ∷ []))

-- the bytes are the text of these numbers; nothing is said of their sums
pub record IsTextOfCells (bytes : List ℕ) (cells : List Numbers) : Type 0 where
  pub are : AreCells cells
  pub text : bytes ≡ cells_text cells

-- the bytes are a text in form
pub record IsCellsForm (bytes : List ℕ) : Type 0 where
  pub cells : List Numbers
  pub form : IsTextOfCells bytes cells

-- the bytes are no text in form, and this is the first line at which they aren't
abbrev pub IsBadCellsLine : List ℕ → ℕ → Type 0
IsBadCellsLine bytes l = IsBadLineOf IsCellsForm bytes l

-- the bytes are the text of these controllers, each of which is one of its machine
pub record IsCellsText (bytes : List ℕ) (cells : List AnyController) : Type 0 where
  pub form : IsTextOfCells bytes (map any_numbers cells)
  pub safe : All IsSafe cells

-- the bytes are a text in form, and the absolute sums of some controller don't fit the width that it says
pub record AreUnsafe (bytes : List ℕ) : Type 0 where
  pub cells : List Numbers
  pub form : IsTextOfCells bytes cells
  pub wide : ¬ All IsEitherController cells
