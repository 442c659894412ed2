-- A command that a file of a controller or of cells ends.
use Rattle.std.proofs.Common.{◌≢◌, inl, inr, ℕ, List, Option, ap}
use Rattle.controller_text.specs.declared.bad_controller.BadController.{BadController}
use Rattle.controller_text.specs.declared.bad_controller.BadController.TheVariants.{Memory as no_space}
use Rattle.command_line.specs.Answers.{IsFileRefused}
use Rattle.command_line.specs.declared.status.Status.{Status}
use Rattle.command_line.proofs.Doing.{IsRefusal, sort_of, plain_refusal}
use Rattle.command_design_files.proofs.Stopping.{controller_refusal}
use Rattle.command_files.specs.Texts.{IsFaultBy, ControllersWrong}

-- a fault of a text of controllers isn't that memory ran out
not_for_memory : (IsBad : List ℕ → ℕ → Type 0) (IsWide : List ℕ → Type 0) (bytes : List ℕ) (fault : BadController) → IsFaultBy IsBad IsWide bytes fault → fault ≢ no_space
not_for_memory IsBad IsWide bytes no_space why is = why
not_for_memory IsBad IsWide bytes fault why is = cc

pub controllers_refused : {IsBad : List ℕ → ℕ → Type 0} {IsWide : List ℕ → Type 0} {limit : ℕ} (file : ℕ) (content : Option (List ℕ)) (s : Status) →
    IsFileRefused limit file (ControllersWrong IsBad IsWide file) content s → IsRefusal s
controllers_refused file content s (inl long) = plain_refusal s (ap sort_of long.is)
controllers_refused {IsBad} {IsWide} file content s (inr wrong) =
    let right = wrong.right in
    controller_refusal file right.0 s (not_for_memory IsBad IsWide wrong.bytes right.0 right.1) right.2
