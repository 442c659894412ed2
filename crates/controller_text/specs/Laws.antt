-- What is said of all controllers' texts.
use Rattle.std.specs.Prelude.{◌≡◌, ◌↔◌, ◌⊎◌, ℕ, ◌≤◌, List, length}
use Rattle.qp_model.specs.problem.Limits.{last_version}
use Rattle.qp_model.specs.machine.Controller.{Numbers, IsInForm}
use Rattle.qp_model.specs.text.ControllerText.{IsControllerText}
use Rattle.overflow_check.specs.FastController.{fast_version, IsFastInForm}
use Rattle.controller_text.specs.TextForm.{IsTextForm, IsFastControllerText}

-- the numbers of a text are in form by their version: as a controller's of version 1 or 2, or as one's of the accelerated machine
pub record TextFormLaw : Type 0 where
  pub plain : (c : Numbers) → IsInForm c ↔ (IsTextForm c × (c.version ≤ last_version))
  pub fast : (c : Numbers) → IsFastInForm c ↔ (IsTextForm c × (c.version ≡ fast_version))

-- the most bytes of a controller's text: by its greatest sizes, and 41 of each number with its space, it has no more than 2,896,100
abbrev pub text_limit : ℕ
text_limit = 2900000

abbrev pub TextLengthLaw : Type 0
TextLengthLaw = (bytes : List ℕ) (c : Numbers) → IsControllerText bytes c ⊎ IsFastControllerText bytes c → length bytes ≤ text_limit
