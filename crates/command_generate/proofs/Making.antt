-- What a generator answers is what it is called for.
use Rattle.std.proofs.Common.{◌≡◌, ◌≢◌, ◌⊎◌, inl, inr, ℕ, Result, Ok, Err, refl, sym, ap, ◌∙◌, subst, List, IfOk, IfErr}
use Rattle.std.specs.Prelude.{IsOk}
use Rattle.qp_model.specs.declared.bounds.Margin.{Margin}
use Rattle.qp_model.specs.declared.refusal.Refusal.{Refusal}
use Rattle.qp_model.specs.declared.refusal.Refusal.TheVariants as refusals
use Rattle.qp_model.specs.machine.Controller.{Numbers}
use Rattle.qp_model.specs.bounds.Printed.{Printed}
use Rattle.command_line.specs.Status.{status_of}
use Rattle.command_line.specs.Answers.{IsAnswer}
use Rattle.command_line.specs.Does.{IsTelling}
use Rattle.command_line.specs.TwoTexts.{IsUnmade}
use Rattle.command_line.proofs.Doing.{IsRefusal, done_telling, sort_of, plain_refusal}
use Rattle.command_line.proofs.TwoTexts.{unmade_memory, unmade}
use Rattle.command_generate.specs.Made.{IsCausedRefusal, PassesWith, CallsFor, Makes, IsReport, MakesTexts}
use Rattle.command_line.specs.declared.status.Status.{Status}
use Rattle.command_line.specs.declared.status.Status.TheVariants.{Done, Memory}
use Rattle.command_line.specs.declared.two_texts.Texts.{Texts}

-- ---- a refusal's status
pub refusal_of : (r : Refusal) (s : Status) → s ≡ status_of r → r ≢ refusals.Memory → IsRefusal s
refusal_of refusals.Memory s is other = absurd (other refl)
refusal_of r s is other = plain_refusal s (ap sort_of is)

-- ---- a generator, for which out of memory has no cause
module _ (Cause : Refusal → Type 0) (All : Margin → (s f : ℕ) → Type 0) (no_memory : Cause refusals.Memory → ⊥) where
  -- what it refuses tells
  not_memory : (r : Refusal) → Cause r → r ≢ refusals.Memory
  not_memory r cause is = no_memory (subst Cause is cause)

  pub refused_for : (s : Status) → IsCausedRefusal Cause s → IsRefusal s
  refused_for s why = refusal_of why.refusal s why.is (not_memory why.refusal why.cause)

  pub making_telling : (s : Status) → CallsFor Cause All s → IsTelling s
  making_telling s (inl why) = (refused_for s why).telling
  making_telling s (inr done) = done_telling s done.0

  -- it tells each cause, and accepts what passes
  module _ {M : Type 0} (a : Result M Refusal) (tells : (r : Refusal) → Cause r → (a ≡ Err r) ⊎ (a ≡ Err refusals.Memory)) where
    pub no_cause : (x : M) → a ≡ Ok x → (r : Refusal) → Cause r → ⊥
    no_cause x is r cause = elim (tells r cause) [ inl e ↦ cc | inr e ↦ cc ]

    pub done_called : (x : M) → a ≡ Ok x → PassesWith All → IsAnswer (CallsFor Cause All) Done
    done_called x is passes = record { called = inr (refl, passes); only = only }
      where
        only : (t : Status) → CallsFor Cause All t → t ≡ Done
        only t (inl why) = absurd (no_cause x is why.refusal why.cause)
        only t (inr done) = done.0

    pub refused_called : ((m : Margin) (s f : ℕ) → All m s f → IsOk a ⊎ (a ≡ Err refusals.Memory)) → (r : Refusal) (s : Status) → a ≡ Err r → s ≡ status_of r → (r ≡ refusals.Memory) ⊎ Cause r →
        IsUnmade (CallsFor Cause All) s
    refused_called accepts r s is told (inl memory) = unmade_memory (CallsFor Cause All) s (told ∙ ap status_of memory)
    refused_called accepts r s is told (inr cause) =
        unmade (CallsFor Cause All) s (record { called = inl (record { refusal = r; cause = cause; is = told }); only = only }) (refusal_of r s told (not_memory r cause))
      where
        same : (other : Refusal) → a ≡ Err other → other ≡ r
        same other e = cc

        told_same : (t : Status) (other : Refusal) → t ≡ status_of other → (a ≡ Err other) ⊎ (a ≡ Err refusals.Memory) → t ≡ s
        told_same t other tells_other (inl e) = tells_other ∙ ap status_of (same other e) ∙ sym told
        told_same t other tells_other (inr memory) = absurd (not_memory r cause (sym (same refusals.Memory memory)))

        passes_not : (b : Result M Refusal) → a ≡ b → IsOk b ⊎ (b ≡ Err refusals.Memory) → ⊥
        passes_not (Ok x) here h = cc
        passes_not (Err e) here (inl ok) = cc
        passes_not (Err e) here (inr memory) = not_memory r cause (sym (same refusals.Memory (here ∙ memory)))

        only : (t : Status) → CallsFor Cause All t → t ≡ s
        only t (inl why) = told_same t why.refusal why.is (tells why.refusal why.cause)
        only t (inr done) = absurd (passes_not a refl (accepts done.1.margin done.1.exponent done.1.bits done.1.all))

-- ---- what is made of what was made
-- nothing, where nothing was
pub none_made : {T : Type 0} {Calls : Status → Type 0} {Right : T → Type 0} {s : Status} → IsUnmade Calls s → Makes Calls Right (Err s)
none_made none = record { made = tt; called = tt; unmade = none }

-- only memory may be short, where all was
pub makes_of : {T : Type 0} {Calls : Status → Type 0} {P Right : T → Type 0} (r : Result T Status) → IsAnswer Calls Done → ((t : T) → P t → Right t) → IfOk r P → IfErr r (λ e. e ≡ Memory) → Makes Calls Right r
makes_of (Ok t) answer right p memory = record { made = right t p; called = answer; unmade = tt }
makes_of {T} {Calls} (Err e) answer right p memory = none_made (unmade_memory Calls e memory)

-- both texts
pub texts_of_made : {IsText : List ℕ → Numbers → Type 0} {Calls : Status → Type 0} {Made : Numbers → Printed → Type 0} {report_name : List ℕ} (c : Numbers) (b : Printed) (r : Result Texts Status) → IsAnswer Calls Done →
    Made c b → IfOk r (λ t. IsText t.first.items c × IsReport report_name b t.second.items) → IfErr r (λ e. e ≡ Memory) → MakesTexts IsText Calls Made report_name r
texts_of_made c b r answer made texts memory = makes_of r answer (λ t are. record { controller = c; bounds = b; made = made; is_text = are.0; is_report = are.1 }) texts memory
