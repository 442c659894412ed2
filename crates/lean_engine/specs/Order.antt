-- At most one refusal has a cause, and none has one where every test is passed.
use Rattle.std.specs.Prelude.{◌≡◌, ℕ}
use Rattle.qp_model.specs.problem.Parts.{IsDesign, design_of}
use Rattle.qp_model.specs.problem.Policy.{Plans, IsPolicyFor}
use Rattle.qp_model.specs.declared.design_parts.DesignParts.{DesignParts}
use Rattle.qp_model.specs.declared.bounds.Margin.{Margin}
use Rattle.design_engine.specs.Targets.{Targets}
use Rattle.lean_engine.specs.Refusals.{HasLeanCause, PassesLean}
use Rattle.qp_model.specs.declared.refusal.Refusal.{Refusal}

abbrev pub LeanCausesLaw : Type 0
LeanCausesLaw = (p : DesignParts) (plans references : Plans) (t : Targets) (e other : Refusal) → IsDesign p → IsPolicyFor (design_of p) plans →
    HasLeanCause (design_of p) t plans references e → HasLeanCause (design_of p) t plans references other → e ≡ other

abbrev pub LeanPassingLaw : Type 0
LeanPassingLaw = (p : DesignParts) (plans references : Plans) (t : Targets) (m : Margin) (s f : ℕ) (e : Refusal) → IsDesign p → IsPolicyFor (design_of p) plans →
    PassesLean (design_of p) t plans references m s f → ¬ HasLeanCause (design_of p) t plans references e
