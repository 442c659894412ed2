-- The made texts are those of one design and one policy, so a number calls for one answer.
use Rattle.std.proofs.Common.{◌≡◌, ◌⊎◌, inl, inr, ℕ, subst}
use Rattle.qp_model.specs.problem.Policy.{Plans}
use Rattle.qp_model.specs.problem.Parts.{design_numbers}
use Rattle.qp_model.specs.declared.design_parts.DesignParts.{DesignParts}
use Rattle.command_line.specs.Answers.{IsAnswer, IsCaused}
use Rattle.command_line.specs.TwoTexts.{IsUnmade}
use Rattle.command_generate.specs.Made.{MakingCalls}
use Rattle.command_generate.proofs.SameDesign.{making_same}
use Rattle.command_demo.specs.Demo.{AreMadeFrom, DemoCalls}
use Rattle.command_line.specs.declared.status.Status.{Status}
use Rattle.command_line.specs.declared.status.Status.TheVariants.{Done, Memory, ReadFault, WriteFault}

-- the made texts are those of this design and this policy alone
abbrev pub OneOf : ℕ → DesignParts → Plans → Type 0
OneOf number p plans = (q : DesignParts) (other : Plans) → AreMadeFrom number q other → (design_numbers q ≡ design_numbers p) × (other ≡ plans)

pub answer_is : (number : ℕ) (p : DesignParts) (plans : Plans) (s : Status) → AreMadeFrom number p plans → OneOf number p plans → IsAnswer (MakingCalls p plans) s → IsAnswer (DemoCalls number) s
answer_is number p plans s made one answer = record { called = (p, plans, made, answer.called); only = only }
  where
    only : (t : Status) → DemoCalls number t → t ≡ s
    only t calls =
        let same = one calls.0 calls.1 calls.2 in
        answer.only t (subst (λ (r : Plans). MakingCalls p r t) same.1 (making_same calls.0 p same.0 calls.1 t calls.3))

-- where the design with the policy is refused
pub refused_is : (number : ℕ) (p : DesignParts) (plans : Plans) (s : Status) → AreMadeFrom number p plans → OneOf number p plans → IsUnmade (MakingCalls p plans) s → IsCaused s → IsAnswer (DemoCalls number) s
refused_is number p plans s made one none caused = answer_is number p plans s made one (none.called caused)

-- ---- the statuses of printing
abbrev pub PrintingEnds : Status → Type 0
PrintingEnds s = (s ≡ Memory) ⊎ ((s ≡ Done) ⊎ (s ≡ WriteFault 0))

pub printed_done : (s : Status) → PrintingEnds s → IsCaused s → s ≡ Done
printed_done s (inl memory) caused = absurd (caused.memory memory)
printed_done s (inr (inl done)) caused = done
printed_done s (inr (inr fault)) caused = absurd (caused.write 0 fault)

pub printed_one : (A : Type 0) (s : Status) → PrintingEnds s → (s ≡ Done → ⊥) → (s ≡ Memory → ⊥) → (s ≡ WriteFault 0 → ⊥) → A
printed_one A s (inl is) done memory fault = absurd (memory is)
printed_one A s (inr (inl is)) done memory fault = absurd (done is)
printed_one A s (inr (inr is)) done memory fault = absurd (fault is)

pub printed_no_read : (s : Status) → PrintingEnds s → (file : ℕ) → s ≡ ReadFault file → ⊥
printed_no_read s (inl memory) file is = cc
printed_no_read s (inr (inl done)) file is = cc
printed_no_read s (inr (inr fault)) file is = cc

pub printed_fault : (R : Type 0) (s : Status) → PrintingEnds s → (s ≡ WriteFault 0 → R) → (file : ℕ) → s ≡ WriteFault file → (file ≡ 0) × R
printed_fault R s (inl memory) rose file is = absurd (let never : ⊥ = cc in never)
printed_fault R s (inr (inl done)) rose file is = absurd (let never : ⊥ = cc in never)
printed_fault R s (inr (inr fault)) rose file is = let same : file ≡ 0 = cc in (same, rose fault)
