-- A command that a file ends: what the status is, and what it isn't.
use Rattle.std.proofs.Common.{◌≡◌, ◌≢◌, inl, inr, ℕ, List, Option, refl, ap}
use Rattle.controller_text.specs.declared.bad_controller.BadController.{BadController}
use Rattle.controller_text.specs.declared.bad_controller.BadController.TheVariants.{Memory as no_space}
use Rattle.number_text.specs.declared.text_fault.TextFault.{TextFault}
use Rattle.number_text.specs.declared.text_fault.TextFault.TheVariants.{Memory as no_room}
use Rattle.command_line.specs.Limit.{file_limit}
use Rattle.command_line.specs.Answers.{IsFileRefused}
use Rattle.command_line.proofs.Doing.{IsRefusal, sort_of, plain_refusal}
use Rattle.command_line.specs.declared.status.Status.{Status}
use Rattle.command_line.specs.declared.status.Status.TheVariants.{Controller}
use Rattle.command_design_files.specs.Texts.{TellsFault, TextWrong}

pub text_refusal : (file : ℕ) (fault : TextFault) (s : Status) → TellsFault file fault s → IsRefusal s
text_refusal file no_room s (other, is) = absurd (other refl)
text_refusal file fault s (other, is) = plain_refusal s (ap sort_of is)

pub controller_refusal : (file : ℕ) (fault : BadController) (s : Status) → fault ≢ no_space → s ≡ Controller file fault → IsRefusal s
controller_refusal file no_space s other is = absurd (other refl)
controller_refusal file fault s other is = plain_refusal s (ap sort_of is)

-- a file that is too long, or holds a text with a fault
pub text_refused : {Fault : List ℕ → TextFault → Type 0} (file : ℕ) (content : Option (List ℕ)) (s : Status) → IsFileRefused file_limit file (TextWrong Fault file) content s → IsRefusal s
text_refused file content s (inl long) = plain_refusal s (ap sort_of long.is)
text_refused file content s (inr wrong) = let told = wrong.right in text_refusal file told.0 s told.2
