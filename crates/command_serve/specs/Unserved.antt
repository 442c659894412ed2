-- States that no cell's box holds.
use Rattle.std.specs.Prelude.{ℕ, ℤ, List, length, get_or}
use Rattle.plan_lines.specs.ControllerFile.declared.any_controller.AnyController.{AnyController}
use Rattle.plan_lines.specs.ControllerFile.AnyText.{any_numbers}
use Rattle.fixed_kernel.specs.Outside.{IsFirstOutside}
use Rattle.cell_file.specs.Finding.{NoneHolds}

-- no cell's box holds the state, and this is its first coordinate outside the first cell's box
pub record IsHeldByNone (cells : List AnyController) (xi : List ℤ) (coordinate : ℕ) : Type 0 where
  pub none : NoneHolds cells xi (length cells)
  pub first : (c : AnyController) → IsFirstOutside (any_numbers (get_or cells 0 c)) xi coordinate
