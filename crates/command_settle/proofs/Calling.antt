-- What a certificate calls for, by what its check answers.
use Rattle.std.proofs.Common.{◌≡◌, ◌⊎◌, inl, inr, refl, sym, ap, ◌∙◌, subst}
use Rattle.mat_int.specs.Matrix.{Matrix}
use Rattle.qp_model.specs.problem.Design.{Design}
use Rattle.qp_model.specs.machine.Controller.{Numbers}
use Rattle.settle_check.specs.Settles.{PassesSettling, IsSettleFault}
use Rattle.settle_check.specs.CertificateText.{CertificateNumbers, certificate_in}
use Rattle.settle_check.specs.declared.fault.SettleFault.{SettleFault}
use Rattle.settle_check.specs.declared.fault.SettleFault.TheVariants as faults
use Rattle.command_line.specs.Answers.{IsAnswer}
use Rattle.command_line.specs.Does.{IsTelling}
use Rattle.command_line.proofs.Doing.{IsRefusal, done_telling, plain_refusal}
use Rattle.command_line.specs.declared.status.Status.{Status}
use Rattle.command_line.specs.declared.status.Status.TheVariants.{Done}
use Rattle.command_settle.specs.Settle.{settle_status, range_box, CertificateCalls}
use Rattle.command_settle.specs.Files.{IsUncut, IsUntold}

module _ (d : Design) (c : Numbers) (f : CertificateNumbers) (range : Matrix) where
  abbrev Passes : Type 0
  Passes = PassesSettling d c (range_box range) (certificate_in f)

  abbrev IsFault : SettleFault → Type 0
  IsFault = IsSettleFault d c (range_box range) (certificate_in f)

  -- ---- the status of a fault
  fault_refusal : (fault : SettleFault) → IsFault fault → IsRefusal (settle_status fault)
  fault_refusal faults.Memory why = absurd why
  fault_refusal fault why = plain_refusal (settle_status fault) refl

  pub fault_uncut : (fault : SettleFault) → IsFault fault → IsUncut (settle_status fault)
  fault_uncut fault why = let is = fault_refusal fault why in record { done = is.done; read = is.read; write = is.write }

  pub calls_telling : (s : Status) → CertificateCalls d c f range s → IsTelling s
  calls_telling s (inl done) = done_telling s done.0
  calls_telling s (inr fault) = subst IsTelling (sym fault.2) (fault_refusal fault.0 fault.1).telling

  -- where all loops settle, the certificate passed every test
  pub done_passes : CertificateCalls d c f range Done → Passes
  done_passes (inl done) = done.1
  done_passes (inr fault) = absurd ((fault_uncut fault.0 fault.1).done (sym fault.2))

  -- ---- the answer
  -- it passes every test
  pub passing : Passes → ((told : SettleFault) → IsFault told → ⊥) → IsAnswer (CertificateCalls d c f range) Done
  passing passes first = record { called = inl (refl, passes); only = go }
    where
      go : (t : Status) → CertificateCalls d c f range t → t ≡ Done
      go t (inl done) = done.0
      go t (inr fault) = absurd (first fault.0 fault.1)

  -- it has a fault
  never_memory : (fault : SettleFault) → IsFault fault → fault ≡ faults.Memory → ⊥
  never_memory faults.Memory why is = why
  never_memory fault why is = cc

  pub failing : (fault : SettleFault) (s : Status) → s ≡ settle_status fault → (fault ≡ faults.Memory) ⊎ IsFault fault → (Passes → fault ≡ faults.Memory) →
      ((told : SettleFault) → IsFault told → (fault ≡ told) ⊎ (fault ≡ faults.Memory)) → IsUntold d c f range s
  failing fault s is (inl memory) right first = inl (is ∙ ap settle_status memory)
  failing fault s is (inr why) right first = inr (
    record { called = inr (fault, why, is); only = go },
    subst IsUncut (sym is) (fault_uncut fault why),
  )
    where
      same : (told : SettleFault) → (fault ≡ told) ⊎ (fault ≡ faults.Memory) → fault ≡ told
      same told (inl one) = one
      same told (inr memory) = absurd (never_memory fault why memory)

      go : (t : Status) → CertificateCalls d c f range t → t ≡ s
      go t (inl done) = absurd (never_memory fault why (right done.1))
      go t (inr other) = other.2 ∙ ap settle_status (sym (same other.0 (first other.0 other.1))) ∙ sym is
