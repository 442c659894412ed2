-- At most one refusal has a cause, and none has one where every test is passed.
use Rattle.std.specs.Prelude.{◌≡◌, ℕ}
use Rattle.qp_model.specs.problem.Parts.{IsDesign, design_of}
use Rattle.qp_model.specs.problem.Policy.{Plans, IsPolicyFor}
use Rattle.qp_model.specs.declared.design_parts.DesignParts.{DesignParts}
use Rattle.qp_model.specs.declared.bounds.Margin.{Margin}
use Rattle.design_engine.specs.Targets.{Targets}
use Rattle.design_engine.specs.Refusals.{HasCause, PassesAll}
use Rattle.qp_model.specs.declared.refusal.Refusal.{Refusal}

abbrev pub CausesLaw : Type 0
CausesLaw = (p : DesignParts) (plans : Plans) (t : Targets) (e other : Refusal) → IsDesign p → IsPolicyFor (design_of p) plans →
    HasCause (design_of p) t plans e → HasCause (design_of p) t plans other → e ≡ other

abbrev pub PassingLaw : Type 0
PassingLaw = (p : DesignParts) (plans : Plans) (t : Targets) (m : Margin) (s f : ℕ) (e : Refusal) → IsDesign p → IsPolicyFor (design_of p) plans →
    PassesAll (design_of p) t plans m s f → ¬ HasCause (design_of p) t plans e
