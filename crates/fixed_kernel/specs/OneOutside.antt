-- A state has at most one first coordinate outside the box, and has none exactly where it lies in the box.
use Rattle.std.specs.Prelude.{◌≡◌, ℕ, ℤ, List}
use Rattle.qp_model.specs.machine.Controller.{Numbers}
use Rattle.qp_model.specs.machine.Machine.{IsAdmissible}
use Rattle.fixed_kernel.specs.Outside.{IsFirstOutside}

-- two first coordinates outside are one, and a state of the box has none
pub record HasOneOutside (c : Numbers) (xi : List ℤ) : Type 0 where
  pub alone : (k l : ℕ) → IsFirstOutside c xi k → IsFirstOutside c xi l → k ≡ l
  pub none : IsAdmissible c xi → (k : ℕ) → ¬ IsFirstOutside c xi k

abbrev pub OneOutsideLaw : Type 0
OneOutsideLaw = (c : Numbers) (xi : List ℤ) → HasOneOutside c xi
