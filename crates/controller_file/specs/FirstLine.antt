-- Texts in form, and the first line of bytes at which they are none.
use Rattle.std.specs.Prelude.{◌≡◌, ◌⊎◌, ℕ, List}
use Rattle.qp_model.specs.machine.Controller.{Numbers, IsInForm, FitsWord}
use Rattle.qp_model.specs.machine.AbsoluteSums.{IsController}
use Rattle.qp_model.specs.text.ControllerText.{controller_text}
use Rattle.overflow_check.specs.FastController.{IsFastController}
use Rattle.controller_text.specs.TextForm.{IsTextForm}
use Rattle.text_lines.specs.FirstLine.{IsBadLineOf}

-- the bytes are the text of these numbers, which have such shapes and ranges; nothing is said of their sums
pub record IsTextIn (Form : Numbers → Type 0) (bytes : List ℕ) (c : Numbers) : Type 0 where
  pub form : Form c
  pub word : FitsWord c
  pub text : bytes ≡ controller_text c

-- the bytes are a text in such a form
pub record IsSomeTextIn (Form : Numbers → Type 0) (bytes : List ℕ) : Type 0 where
  pub numbers : Numbers
  pub form : IsTextIn Form bytes numbers

-- the bytes are a text in it whose absolute sums don't fit the width that it says
pub record IsUnsafeIn (Form Safe : Numbers → Type 0) (bytes : List ℕ) : Type 0 where
  pub numbers : Numbers
  pub form : IsTextIn Form bytes numbers
  pub wide : ¬ Safe numbers

-- ---- of version 1 or 2
abbrev pub IsFormText : List ℕ → Type 0
IsFormText = IsSomeTextIn IsInForm

-- the bytes are no text in form, and this is the first line at which they aren't
abbrev pub IsBadLine : List ℕ → ℕ → Type 0
IsBadLine bytes l = IsBadLineOf IsFormText bytes l

abbrev pub IsUnsafe : List ℕ → Type 0
IsUnsafe = IsUnsafeIn IsInForm IsController

-- ---- of any version
abbrev pub IsAnyFormText : List ℕ → Type 0
IsAnyFormText = IsSomeTextIn IsTextForm

abbrev pub IsAnyBadLine : List ℕ → ℕ → Type 0
IsAnyBadLine bytes l = IsBadLineOf IsAnyFormText bytes l

-- a controller of either machine
abbrev pub IsEitherController : Numbers → Type 0
IsEitherController c = IsController c ⊎ IsFastController c

abbrev pub IsAnyUnsafe : List ℕ → Type 0
IsAnyUnsafe = IsUnsafeIn IsTextForm IsEitherController
