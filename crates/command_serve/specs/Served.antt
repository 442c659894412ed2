-- Which states the cells serve.
use Rattle.std.specs.Prelude.{◌≡◌, ℕ, ◌<◌, ℤ, List, [], ◌∷◌, length, get_or, map}
use Rattle.mat_int.specs.Matrix.{Matrix, row_of}
use Rattle.plan_lines.specs.ControllerFile.AnyText.{any_numbers}
use Rattle.plan_lines.specs.ControllerFile.declared.any_controller.AnyController.{AnyController}
use Rattle.cell_file.specs.Finding.{IsFirstHolding}
use Rattle.plan_lines.specs.Making.{any_controller}
use Rattle.plan_lines.specs.declared.any_kernel.AnyKernel.{AnyKernel}

-- how many numbers a state of cells has: those of a state of the first, like which all are
abbrev pub cell_states : List AnyController → ℕ
cell_states [] = 0
cell_states (c ∷ cells) = (any_numbers c).states

-- states of so many numbers are states of each cell
abbrev pub HaveWidth : List AnyController → ℕ → Type 0
HaveWidth cells n = (k : ℕ) (c : AnyController) → k < length cells → n ≡ (any_numbers (get_or cells k c)).states

-- some cell's box holds the state: there is a first
abbrev pub IsHeldBySome : List AnyController → List ℤ → Type 0
IsHeldBySome cells xi = (k : ℕ) × IsFirstHolding cells xi k

-- some cell's box holds each of the first n states
abbrev pub AreServed : List AnyController → Matrix → (n : ℕ) → Type 0
AreServed cells states n = (e : ℕ) → e < n → IsHeldBySome cells (row_of states e)

-- the controllers of kernels
abbrev pub controllers_of : List AnyKernel → List AnyController
controllers_of kernels = map any_controller kernels
