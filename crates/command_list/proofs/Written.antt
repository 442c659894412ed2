-- The script of `list`, and the statuses of writing.
use Rattle.std.proofs.Common.{◌≡◌, ◌≢◌, ◌⊎◌, inl, inr, ℕ, ◌∙◌, sym, refl, arith}
use Rattle.qp_model.specs.machine.Controller.{Numbers}
use Rattle.command_line.specs.Answers.{IsAnswer, IsCaused}
use Rattle.command_line.specs.Script.{ends}
use Rattle.command_line.proofs.Doing.{done_telling}
use Rattle.command_line.proofs.Gathering.{whole}
use Rattle.command_line.proofs.Following.{IsSoundWork}
use Rattle.command_line.specs.declared.status.Status.{Status}
use Rattle.command_line.specs.declared.status.Status.TheVariants.{Done, ReadFault, WriteFault}
use Rattle.command_files.proofs.Stopping.{controllers_refused}
use Rattle.command_list.specs.Listed.{list_act, list_work}

pub list_sound : IsSoundWork list_work
list_sound = record { sound = (omega arith, controllers_refused 1, whole (λ (c : Numbers). ends (list_act c)), λ c. done_telling); first = inl refl }

-- ---- the statuses of writing
module _ (s : Status) (only : (s ≡ Done) ⊎ (s ≡ WriteFault 2)) where
  pub written_done : IsCaused s → IsAnswer (λ t. t ≡ Done) s
  written_done caused = elim only [ inl done ↦ record { called = done; only = λ t is. is ∙ sym done } | inr cut ↦ absurd (caused.write 2 cut) ]

  pub written_no_read : (file : ℕ) → s ≢ ReadFault file
  written_no_read file is = elim only [ inl done ↦ cc | inr cut ↦ cc ]

  pub written_none : s ≢ Done → ((file : ℕ) → s ≢ WriteFault file) → ⊥
  written_none done write = elim only [ inl is ↦ done is | inr cut ↦ write 2 cut ]

  pub written_second : (file : ℕ) → s ≡ WriteFault file → (file ≡ 2) × (s ≡ WriteFault 2)
  written_second file is = elim only [ inl done ↦ absurd (let never : ⊥ = cc in never) | inr cut ↦ (let same : file ≡ 2 = cc in same, cut) ]
