-- The refusal that a fault becomes.
use Rattle.hessian_check.specs.declared.fault.CurvatureFault.{CurvatureFault}
use Rattle.hessian_check.specs.declared.fault.CurvatureFault.TheVariants.{Memory as no_memory, TooWide as wide, NoStep}
use Rattle.qp_model.specs.declared.refusal.Refusal.{Refusal}
use Rattle.qp_model.specs.declared.refusal.Refusal.TheVariants.{Memory, Curvature, TooWide}

abbrev pub of_curvature : CurvatureFault → Refusal
of_curvature no_memory = Memory
of_curvature (wide quantity) = TooWide quantity
of_curvature NoStep = Curvature
