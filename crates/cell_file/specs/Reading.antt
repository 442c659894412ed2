-- Controllers from the lines of a text of cells.
use Rattle.std.specs.Prelude.{◌≡◌, ◌⊎◌, List, map, All}
use Rattle.qp_model.specs.machine.Controller.{Numbers}
use Rattle.text_lines.specs.Lines.{Keyed}
use Rattle.controller_text.specs.TextForm.{IsTextForm}
use Rattle.controller_text.specs.Lines.{keyed_lines}
use Rattle.controller_text.specs.declared.bad_controller.BadController.{BadController}
use Rattle.controller_text.specs.declared.bad_controller.BadController.TheVariants.{Memory, Unsafe}
use Rattle.controller_file.specs.FirstLine.{IsEitherController}
use Rattle.controller_file.specs.AnyText.{any_numbers, IsSafe}
use Rattle.controller_file.specs.declared.any_controller.AnyController.{AnyController}
use Rattle.cell_file.specs.Cells.{AreCells}
use Rattle.cell_file.specs.Lines.{cells_lines}

-- this is the controller with these lines
pub record IsOf (ls : List Keyed) (k : AnyController) : Type 0 where
  pub safe : IsSafe k
  pub one : (c : Numbers) → IsTextForm c → keyed_lines c ≡ ls → any_numbers k ≡ c

-- out of memory, or the sums of the controller don't fit
abbrev pub IsNoneOf : List Keyed → BadController → Type 0
IsNoneOf ls e = (e ≡ Memory) ⊎ ((e ≡ Unsafe) × ((c : Numbers) → IsTextForm c → keyed_lines c ≡ ls → ¬ IsEitherController c))

-- the same of all cells
pub record AreCellsOf (ls : List Keyed) (ks : List AnyController) : Type 0 where
  pub safe : All IsSafe ks
  pub one : (cells : List Numbers) → AreCells cells → cells_lines cells ≡ ls → map any_numbers ks ≡ cells

abbrev pub AreNoneOf : List Keyed → BadController → Type 0
AreNoneOf ls e = (e ≡ Memory) ⊎ ((e ≡ Unsafe) × ((cells : List Numbers) → AreCells cells → cells_lines cells ≡ ls → ¬ All IsEitherController cells))
