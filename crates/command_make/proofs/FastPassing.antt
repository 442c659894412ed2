-- What was made for the accelerated machine, or its refusal told as a status, is what is called for; with reference plans or without.
use Rattle.std.proofs.Common.{◌≡◌, ◌⊎◌, ◌∙◌, true, ℕ, List, pos, Option, Result, Ok, Err, IfOk, IfErr, refl, ap, sym, unsigned_abs}
use Rattle.std.specs.Prelude.{IsOk}
use Rattle.std.specs.Result.{OnOk}
use Rattle.qp_model.specs.problem.Parts.{design_of}
use Rattle.qp_model.specs.problem.Policy.{Plans}
use Rattle.qp_model.specs.bounds.Printed.{printed}
use Rattle.qp_model.specs.declared.bounds.Margin.{Margin}
use Rattle.qp_model.specs.declared.design_parts.DesignParts.{DesignParts}
use Rattle.qp_model.specs.declared.refusal.Refusal.{Refusal}
use Rattle.qp_model.specs.declared.refusal.Refusal.TheVariants.{Memory}
use Rattle.command_line.specs.Status.{status_of}
use Rattle.command_line.specs.declared.status.Status.{Status}
use Rattle.command_design_files.specs.Texts.{IsToldBy}
use Rattle.command_generate.specs.Engine.Bounds.{printed_multiplier}
use Rattle.command_generate.specs.Engine.Targets.{targets_of, IsWithinTargets}
use Rattle.command_generate.specs.Made.{Makes}
use Rattle.command_generate.proofs.Making.{done_called, refused_called, none_made}
use Rattle.fast_bounds.specs.FastAnswers.{stated_cost_for}
use Rattle.fast_bounds.specs.FastCertified.{IsFastCertified}
use Rattle.fast_bounds.specs.FastMargin.{IsFastMarginBuilt}
use Rattle.fast_bounds.specs.declared.generation.FastMade.{FastMade}
use Rattle.command_make.specs.Made.{CauseOf, PassesFastBy, PassesFastWith, MakingCallsWith, IsFastBuiltBy, IsFastMadeOf}
use Rattle.command_make.proofs.Calling.{no_memory}

-- the status of what was refused
abbrev Told : Result FastMade Refusal → Result FastMade Status → Type 0
Told = IsToldBy (λ refusal s. s ≡ status_of refusal)

module _ (p : DesignParts) (plans : Plans) (reference : Option Plans) where
  abbrev Cause : Refusal → Type 0
  Cause = CauseOf (design_of p) (targets_of p) plans reference true

  abbrev Passes : Margin → (s k : ℕ) → List ℕ → ℕ → Type 0
  Passes = PassesFastBy (design_of p) (targets_of p) plans reference

  -- what an engine says of its answer
  pub record Says (a : Result FastMade Refusal) : Type 0 where
    pub built : IfOk a (λ m. IsFastBuiltBy p plans reference m.controller (printed m.bounds))
    pub certified : IfOk a (λ m. IsFastCertified (design_of p) m.controller (printed m.bounds))
    pub targets : IfOk a (λ m. IsWithinTargets (targets_of p) (printed m.bounds))
    pub passes : OnOk a ((m : Margin) × (s : ℕ) × (k : ℕ) × (exponents : List ℕ) × (f : ℕ) × Passes m s k exponents f)
    pub refused : IfErr a (λ e. (e ≡ Memory) ⊎ Cause e)
    pub every_refusal : (e : Refusal) → Cause e → (a ≡ Err e) ⊎ (a ≡ Err Memory)
    pub accepted : (m : Margin) (s k : ℕ) (exponents : List ℕ) (f : ℕ) → Passes m s k exponents f → IsOk a ⊎ (a ≡ Err Memory)

  pub made_fast : (a : Result FastMade Refusal) (r : Result FastMade Status) → Told a r → Says a →
      Makes (MakingCallsWith (design_of p) (targets_of p) plans reference true) (λ m. IsFastMadeOf p plans reference m.controller (printed m.bounds)) r
  made_fast (Ok made) r told is =
      let (m, s, k, es, f, passes) = is.passes in
      rw told (record {
        made = record { built = is.built; certified = is.certified; targets = is.targets };
        called = done_called Cause (PassesFastWith (design_of p) (targets_of p) plans reference) (no_memory (design_of p) (targets_of p) plans reference true) (Ok made) is.every_refusal made refl
            (record { margin = m; exponent = s; bits = f; all = (k, es, passes) });
        unmade = tt;
      })
  made_fast (Err e) (Err s) told is =
      none_made (refused_called Cause (PassesFastWith (design_of p) (targets_of p) plans reference) (no_memory (design_of p) (targets_of p) plans reference true) (Err e) is.every_refusal
      (λ m s f h. is.accepted m s h.0 h.1 f h.2) e s refl told is.refused)
  made_fast (Err e) (Ok made) told is = absurd told

-- what is known of what was made is known of what is told
pub told_made : (P : FastMade → Type 0) (a : Result FastMade Refusal) (r : Result FastMade Status) → Told a r → IfOk a P → IfOk r P
told_made P (Ok made) r told h = rw told h
told_made P (Err e) (Err s) told h = tt
told_made P (Err e) (Ok made) told h = absurd told

-- what the errors of a run cost is stated by R that is printed, or by that of the controller
pub by_printed : (p : DesignParts) (plans : Plans) (m : FastMade) → IsFastMarginBuilt p plans m.controller (printed m.bounds) →
    m.eps ≡ pos (stated_cost_for (design_of p) (printed_multiplier (printed m.bounds)) m.controller) → m.eps ≡ pos (stated_cost_for (design_of p) (unsigned_abs m.bounds.multiplier) m.controller)
by_printed p plans m built is = is ∙ ap (λ (n : ℕ). pos (stated_cost_for (design_of p) n m.controller)) (sym (ap unsigned_abs built.bounds.multiplier))
