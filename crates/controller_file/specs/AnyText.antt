-- The text of a controller of either machine.
use Rattle.std.specs.Prelude.{ℕ, List}
use Rattle.qp_model.specs.machine.Controller.{Numbers}
use Rattle.qp_model.specs.machine.AbsoluteSums.{IsController}
use Rattle.qp_model.specs.text.ControllerText.{IsControllerText}
use Rattle.overflow_check.specs.FastController.{IsFastController}
use Rattle.controller_text.specs.TextForm.{IsFastControllerText}
use Rattle.controller_file.specs.declared.any_controller.AnyController.{AnyController}
use Rattle.controller_file.specs.declared.any_controller.AnyController.TheVariants.{Plain, Fast}

-- its numbers
abbrev pub any_numbers : AnyController → Numbers
any_numbers (Plain c) = c
any_numbers (Fast c) = c

-- they are those of a controller of its machine
abbrev pub IsSafe : AnyController → Type 0
IsSafe (Plain c) = IsController c
IsSafe (Fast c) = IsFastController c

-- the bytes are its text
abbrev pub IsAnyControllerText : List ℕ → AnyController → Type 0
IsAnyControllerText bytes (Plain c) = IsControllerText bytes c
IsAnyControllerText bytes (Fast c) = IsFastControllerText bytes c
