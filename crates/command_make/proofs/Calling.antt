-- What a design calls for with a policy and more is one status.
use Rattle.std.proofs.Common.{◌≡◌, ◌⊎◌, inl, inr, List, ℤ, Bool, true, false, Option, Some, None, refl, sym, ap, subst, ◌∙◌}
use Rattle.integer_algebra.specs.Sums.{at}
use Rattle.mat_int.specs.Matrix.{row_of}
use Rattle.qp_model.specs.problem.Design.{Design}
use Rattle.qp_model.specs.problem.Policy.{Plans}
use Rattle.stay_check.specs.declared.fault.StayFault.{StayFault}
use Rattle.stay_check.specs.declared.fault.StayFault.TheVariants as faults
use Rattle.stay_check.proofs.CheckFacts.{same_fault, stays_or_not}
use Rattle.command_generate.specs.Engine.Targets.{Targets}
use Rattle.qp_model.specs.declared.refusal.Refusal.TheVariants as refusals
use Rattle.command_line.specs.Answers.{IsAnswer}
use Rattle.command_line.specs.Does.{IsTelling}
use Rattle.command_line.specs.TwoTexts.{IsUnmade}
use Rattle.command_line.proofs.Doing.{IsRefusal, done_telling, sort_of, plain_refusal}
use Rattle.command_line.proofs.TwoTexts.{unmade_memory, unmade}
use Rattle.command_line.specs.declared.status.Status.{Status}
use Rattle.command_line.specs.declared.status.Status.TheVariants.{Done, Memory}
use Rattle.command_generate.specs.Made.{IsCausedRefusal, PassesWith}
use Rattle.command_generate.proofs.Engine.CauseLaws.{memory_apart}
use Rattle.command_generate.proofs.Making.{refused_for, making_telling}
use Rattle.lean_engine.proofs.CauseLaws as lean
use Rattle.fast_bounds.proofs.FastCauses.{memory_apart as fast_apart}
use Rattle.fast_bounds.proofs.FastMargin.{margin_memory_apart}
use Rattle.command_make.specs.Made.{CauseOf, PassesOf, MakingCallsWith}
use Rattle.command_make.specs.Excess.{AreStatedExcesses}
use Rattle.command_make.specs.Stay.{stay_status, FacesCall}
use Rattle.command_make.specs.Make.{Under, CallsUnder}
use Rattle.command_make.specs.Checking.{IsKeptWith, IsCaughtWith}

-- ---- the status of a fault
pub fault_refusal : (fault : StayFault) (s : Status) → s ≡ stay_status fault → IsRefusal s
fault_refusal (faults.TooWide quantity) s is = plain_refusal s (ap sort_of is)
fault_refusal fault s is = plain_refusal s (ap sort_of is)

module _ (d : Design) (t : Targets) (plans : Plans) (reference : Option Plans) (fast : Bool) where
  pub no_memory : CauseOf d t plans reference fast refusals.Memory → ⊥
  no_memory = go reference fast
    where
      go : (other : Option Plans) (by : Bool) → CauseOf d t plans other by refusals.Memory → ⊥
      go None false = memory_apart d t plans
      go None true = margin_memory_apart d t plans
      go (Some references) false = lean.memory_apart d t plans references
      go (Some references) true = fast_apart d t plans references

  -- what is stated passes every test
  stated_passes : (excess : List ℤ) → AreStatedExcesses d t plans reference fast excess → PassesWith (PassesOf d t plans reference fast)
  stated_passes excess = go reference fast
    where
      go : (other : Option Plans) (by : Bool) → AreStatedExcesses d t plans other by excess → PassesWith (PassesOf d t plans other by)
      go None false stated = record { margin = stated.margin; exponent = stated.exponent; bits = stated.bits; all = stated.passes }
      go (Some references) false stated = record { margin = stated.margin; exponent = stated.exponent; bits = stated.bits; all = stated.passes }
      go other true stated = record { margin = stated.margin; exponent = stated.exponent; bits = stated.bits; all = (stated.steps, stated.exponents, stated.passes) }

  refusal : (s : Status) → IsCausedRefusal (CauseOf d t plans reference fast) s → IsRefusal s
  refusal = refused_for (CauseOf d t plans reference fast) (PassesOf d t plans reference fast) no_memory

  -- ---- what is called for tells
  pub telling : (under : Option Under) (s : Status) → CallsUnder d t plans reference fast under s → IsTelling s
  telling None s call = making_telling (CauseOf d t plans reference fast) (PassesOf d t plans reference fast) no_memory s call
  telling (Some u) s (inl why) = (refusal s why).telling
  telling (Some u) s (inr (excess, stated, inl done)) = done_telling s done.0
  telling (Some u) s (inr (excess, stated, inr fault)) = (fault_refusal fault.0 s fault.2).telling

  module _ (u : Under) where
    abbrev Calls : Status → Type 0
    Calls = CallsUnder d t plans reference fast (Some u)

    -- ---- refused as where there are no faces: what is stated comes with no refusal
    pub unmade_under : (s : Status) → IsUnmade (MakingCallsWith d t plans reference fast) s → IsUnmade Calls s
    unmade_under s none = record { called = λ caused. by (none.called caused); done = none.done; read = none.read; write = none.write }
      where
        by : IsAnswer (MakingCallsWith d t plans reference fast) s → IsAnswer Calls s
        by answer = record { called = elim answer.called [ inl why ↦ inl why | inr done ↦ absurd (none.done done.0) ]; only = only }
          where
            only : (r : Status) → Calls r → r ≡ s
            only r (inl why) = answer.only r (inl why)
            only r (inr (excess, stated, call)) =
                absurd (none.done (sym (answer.only Done (inr (refl, stated_passes excess stated)))))

    -- ---- answered by the faces, with the numbers of all rows: there is one list of these, and no refusal
    module _ (excess : List ℤ) (stated : AreStatedExcesses d t plans reference fast excess) (one : (other : List ℤ) → AreStatedExcesses d t plans reference fast other → other ≡ excess)
        (making : IsAnswer (MakingCallsWith d t plans reference fast) Done) where
      not_refused : (r : Status) → IsCausedRefusal (CauseOf d t plans reference fast) r → ⊥
      not_refused r why = (refusal r why).done (making.only r (inl why))

      by_excess : (r : Status) (other : List ℤ) → AreStatedExcesses d t plans reference fast other → FacesCall d (at other) u.faces u.range r → FacesCall d (at excess) u.faces u.range r
      by_excess r other own call = subst (λ (xs : List ℤ). FacesCall d (at xs) u.faces u.range r) (one other own) call

      pub kept_calls : IsKeptWith d (at excess) u.faces u.range → IsAnswer Calls Done
      kept_calls kept = record { called = inr (excess, stated, inl (refl, kept.stays)); only = only }
        where
          by : (r : Status) → FacesCall d (at excess) u.faces u.range r → r ≡ Done
          by r (inl done) = done.0
          by r (inr fault) = absurd (stays_or_not d (at excess) (at (row_of u.range 0)) (at (row_of u.range 1)) u.faces fault.0 kept.stays fault.1)

          only : (r : Status) → Calls r → r ≡ Done
          only r (inl why) = absurd (not_refused r why)
          only r (inr call) = by r (by_excess r call.0 call.1 call.2)

      pub caught_calls : (s : Status) → (s ≡ Memory) ⊎ IsCaughtWith d (at excess) u.faces u.range s → IsUnmade Calls s
      caught_calls s (inl memory) = unmade_memory Calls s memory
      caught_calls s (inr caught) =
          unmade Calls s (record { called = inr (excess, stated, inr (caught.fault, caught.found, caught.is)); only = only }) (fault_refusal caught.fault s caught.is)
        where
          by : (r : Status) → FacesCall d (at excess) u.faces u.range r → r ≡ s
          by r (inl done) = absurd (stays_or_not d (at excess) (at (row_of u.range 0)) (at (row_of u.range 1)) u.faces caught.fault done.1 caught.found)
          by r (inr other) =
              other.2 ∙ ap stay_status (same_fault d (at excess) (at (row_of u.range 0)) (at (row_of u.range 1)) u.faces other.0 caught.fault other.1 caught.found) ∙ sym caught.is

          only : (r : Status) → Calls r → r ≡ s
          only r (inl why) = absurd (not_refused r why)
          only r (inr call) = by r (by_excess r call.0 call.1 call.2)
