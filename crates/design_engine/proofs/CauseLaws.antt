-- A cause is what a list of tests tells, and so there is one at most.
use Rattle.std.proofs.Common.{refl}
use Rattle.qp_model.specs.problem.Design.{Design}
use Rattle.qp_model.specs.problem.Parts.{design_of}
use Rattle.qp_model.specs.problem.Policy.{Plans}
use Rattle.qp_model.specs.declared.quantity.Quantity.TheVariants.{Multiplier}
use Rattle.design_engine.specs.Targets.{Targets}
use Rattle.design_engine.specs.Aims.{aim_of}
use Rattle.design_engine.specs.Tests.{HasAimCause}
use Rattle.design_engine.specs.Refusals.{AfterMargin, HasCause}
use Rattle.qp_model.specs.declared.refusal.Refusal.TheVariants.{Memory}
use Rattle.design_engine.specs.Order.{CausesLaw, PassingLaw}
use Rattle.design_engine.proofs.TestLaws.{sized_one, sized_none, sized_apart}
use Rattle.design_engine.proofs.StageLaws.{aim_one, aim_none, aim_apart, form_one, form_none, form_apart, corners_one, corners_none, corners_apart}

pub one_cause : CausesLaw
one_cause p plans t e other design policy =
    corners_one p plans (AfterMargin (design_of p) t) design policy
    (λ m. sized_one Multiplier _ _ (form_one (design_of p) (HasAimCause (design_of p) (aim_of t m)) (λ s h. aim_one p (aim_of t m) design s))) e other

pub no_cause : PassingLaw
no_cause p plans t m s f e design policy h =
    let sizes = h.before.before in
    corners_none p plans (AfterMargin (design_of p) t) design policy m sizes.before.room sizes.before.margin sizes.before.slack
    (sized_none Multiplier _ _ sizes.multiplier
    (form_none (design_of p) (HasAimCause (design_of p) (aim_of t m)) s sizes.form h.before.exponent (aim_none p (aim_of t m) design s f h.aim))) e

-- out of memory has no cause
pub memory_apart : (d : Design) (t : Targets) (plans : Plans) → HasCause d t plans Memory → ⊥
memory_apart d t plans = corners_apart d plans (AfterMargin d t) (λ m. sized_apart Multiplier _ _ (form_apart d (HasAimCause d (aim_of t m)) (aim_apart d (aim_of t m)))) Memory refl
