-- Why a design has no exponents of the step.
use Rattle.std.specs.Prelude.{◌≡◌, ◌⊎◌, ◌^◌, ◌<◌, ◌≤◌}
use Rattle.qp_model.specs.problem.Design.{Design}
use Rattle.qp_model.specs.form.Class.{curvature_quantity}
use Rattle.qp_model.specs.declared.quantity.Quantity.TheVariants.{Curvature}
use Rattle.hessian_check.specs.Steps.{HasNoStep}
use Rattle.hessian_check.specs.declared.fault.CurvatureFault.{CurvatureFault}
use Rattle.hessian_check.specs.declared.fault.CurvatureFault.TheVariants.{Memory, TooWide, NoStep}

-- Why this refusal is the answer: the quantity `curvature` is above its limit; it isn't, and s1 is above 40. Out of memory has no cause in the design.
abbrev pub HasExponentCause : Design → CurvatureFault → Type 0
HasExponentCause d Memory = ⊥
HasExponentCause d (TooWide quantity) = (quantity ≡ Curvature) × (2 ^ 126 < curvature_quantity d)
HasExponentCause d NoStep = (curvature_quantity d ≤ 2 ^ 126) × HasNoStep d

-- out of memory, or with its cause
abbrev pub IsExponentRefused : Design → CurvatureFault → Type 0
IsExponentRefused d e = (e ≡ Memory) ⊎ HasExponentCause d e
