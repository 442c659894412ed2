-- How the test of a certificate, and the run, end.
use Rattle.std.specs.Prelude.{◌≡◌, ◌≢◌, ◌⊎◌, ℕ}
use Rattle.mat_int.specs.Matrix.{Matrix}
use Rattle.qp_model.specs.problem.Design.{Design}
use Rattle.qp_model.specs.machine.Controller.{Numbers}
use Rattle.settle_check.specs.Settles.{PassesSettling}
use Rattle.settle_check.specs.CertificateText.{CertificateNumbers, certificate_in}
use Rattle.command_line.specs.Answers.{IsAnswer}
use Rattle.command_line.specs.declared.status.Status.{Status}
use Rattle.command_line.specs.declared.status.Status.TheVariants.{Done, Memory, ReadFault, WriteFault}
use Rattle.command_settle.specs.Settle.{CertificateCalls, range_box}

-- neither done nor a fault
pub record IsUncut (s : Status) : Type 0 where
  pub done : s ≢ Done
  pub read : (file : ℕ) → s ≢ ReadFault file
  pub write : (file : ℕ) → s ≢ WriteFault file

-- the test of the certificate ends with this status: out of memory, or this one is called for, and no other
abbrev pub IsUntold : Design → Numbers → CertificateNumbers → (range : Matrix) → Status → Type 0
IsUntold d c f range s = (s ≡ Memory) ⊎ (IsAnswer (CertificateCalls d c f range) s × IsUncut s)

-- the run ends with this status: out of memory, or the print failed, or what is called for
abbrev pub SettlingEnds : Design → Numbers → CertificateNumbers → (range : Matrix) → Status → Type 0
SettlingEnds d c f range s =
    (s ≡ Memory) ⊎ (((s ≡ WriteFault 0) × PassesSettling d c (range_box range) (certificate_in f)) ⊎ IsAnswer (CertificateCalls d c f range) s)
