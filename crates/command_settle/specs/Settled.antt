-- That all loops settle, where `settle` ends with 0.
use Rattle.std.specs.Prelude.{◌≡◌, Bool, ℕ, List, ◌++◌, Option, IfSome, IsSomeAnd}
use Rattle.io_edge.specs.Faults.{Files}
use Rattle.mat_int.specs.Matrix.{Matrix}
use Rattle.qp_model.specs.problem.Design.{Design}
use Rattle.settle_check.specs.CertificateText.{CertificateNumbers, certificate_in}
use Rattle.command_line.specs.Answers.{ForContents}
use Rattle.command_loop.specs.ControllerFile.AnyText.{any_numbers}
use Rattle.command_loop.specs.ControllerFile.declared.any_controller.AnyController.{AnyController}
use Rattle.command_settle.specs.Loops.{LoopsSettleOf}
use Rattle.command_settle.specs.Settle.{OfCertificate, range_box, told_text}

-- every closed loop settles as the certificate says, and where the output tells what it got, it got the turn and the box
pub record SettlesTold (d : Design) (k : AnyController) (f : CertificateNumbers) (range : Matrix) (got got_now : Option (List ℕ)) : Type 0 where
  pub settles : LoopsSettleOf d k (range_box range) (certificate_in f)
  pub printed : IfSome got (λ old. IsSomeAnd got_now (λ new. new ≡ old ++ told_text d (any_numbers k) f range))

-- so it is of what the files hold
abbrev pub AreLoopsSettled : (disturbed : Bool) → (words : List (List ℕ)) → Option Files → (got got_now : Option (List ℕ)) → Type 0
AreLoopsSettled disturbed words held got got_now =
    ForContents words held (λ contents. OfCertificate disturbed contents (λ d k f range. SettlesTold d k f range got got_now))
