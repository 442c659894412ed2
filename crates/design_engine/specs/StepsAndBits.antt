-- The number of steps and of fraction bits, as an aim asks for them.
use Rattle.std.specs.Prelude.{◌≡◌, pos, unsigned_abs}
use Rattle.qp_model.specs.problem.Parts.{design_of}
use Rattle.qp_model.specs.declared.design_parts.DesignParts.{DesignParts}
use Rattle.step_error.specs.Made.{AreSumsOf}
use Rattle.design_engine.specs.Aims.{steps_of}
use Rattle.design_engine.specs.Tests.{PassesBits}
use Rattle.design_engine.specs.Bounds.{stated_cost}
use Rattle.design_engine.specs.declared.aimed.Aim.{Aim}
use Rattle.design_engine.specs.declared.aimed.StepsAndBits.{StepsAndBits}
use Rattle.design_engine.specs.declared.aimed.SteppedForm.{SteppedForm}

-- the steps, the sums of the errors and the bits are those of the design p with the aim a
pub record AreStepsAndBitsOf (p : DesignParts) (a : Aim) (x : SteppedForm) (k : StepsAndBits) : Type 0 where
  pub passes : PassesBits (design_of p) a x.s k.choice.f
  pub steps : k.steps ≡ steps_of a x.s
  pub sums : AreSumsOf p (unsigned_abs a.r) x.condensed k.sums
  pub cost : k.choice.eps ≡ pos (stated_cost (design_of p) (unsigned_abs a.r) k.choice.f)
