-- Which controllers' boxes hold a state.
use Rattle.std.specs.Prelude.{ℕ, ◌<◌, ℤ, List, length, get_or}
use Rattle.qp_model.specs.machine.Machine.{IsAdmissible}
use Rattle.controller_file.specs.AnyText.{any_numbers}
use Rattle.controller_file.specs.declared.any_controller.AnyController.{AnyController}

-- none of the first n does
abbrev pub NoneHolds : List AnyController → List ℤ → ℕ → Type 0
NoneHolds cells xi n = (k : ℕ) (c : AnyController) → k < n → ¬ IsAdmissible (any_numbers (get_or cells k c)) xi

-- that of controller k, from 0, is the first
pub record IsFirstHolding (cells : List AnyController) (xi : List ℤ) (k : ℕ) : Type 0 where
  pub there : k < length cells
  pub here : (c : AnyController) → IsAdmissible (any_numbers (get_or cells k c)) xi
  pub before : NoneHolds cells xi k
