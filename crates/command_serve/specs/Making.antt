-- What the kernels of cells make of a state.
use Rattle.std.specs.Prelude.{◌≡◌, ℕ, ◌<◌, List, length}
use Rattle.plan_lines.specs.ControllerFile.declared.any_controller.AnyController.{AnyController}
use Rattle.plan_lines.specs.Making.{Making}
use Rattle.plan_lines.specs.declared.any_kernel.AnyKernel.{AnyKernel}
use Rattle.command_serve.specs.Served.{HaveWidth, IsHeldBySome, controllers_of}
use Rattle.command_serve.specs.Unserved.{IsHeldByNone}
use Rattle.command_serve.specs.Lines.{IsServedLine}

-- the line of the first cell whose box holds it
abbrev pub making_of_cells : List AnyController → Making
making_of_cells cells = record { holds = IsHeldBySome cells; outside = IsHeldByNone cells; line = IsServedLine cells; stops = λ entry xi s. ⊥ }

-- the kernels are those of the cells, in order, of which there is one, and their states are of so many numbers
pub record ArePreparedFor (cells : List AnyController) (kernels : List AnyKernel) (n : ℕ) : Type 0 where
  pub some : 0 < length cells
  pub kernels_are : controllers_of kernels ≡ cells
  pub width : HaveWidth cells n
