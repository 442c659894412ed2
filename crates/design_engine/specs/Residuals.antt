-- A controller beside what its real errors are computed from.
use Rattle.std.specs.Prelude.{ℕ}
use Rattle.qp_model.specs.machine.Controller.{Numbers}
use Rattle.qp_model.specs.declared.design_parts.DesignParts.{DesignParts}
use Rattle.condensed_form.specs.declared.condensed.Condensed.{Condensed}
use Rattle.step_error.specs.declared.sums.ErrorSums.{ErrorSums}
use Rattle.step_error.specs.Made.{IsMadeFor, IsMade}

-- the form c and the sums e are those of the design p with multipliers up to 2 r, and the gains of the controller k solve its systems
abbrev pub IsGivenFor : DesignParts → ℕ → Condensed → ErrorSums → Numbers → Type 0
IsGivenFor p r c e k = IsMadeFor p r c e k.state_gains k.offsets k.dual_gains k.fraction_bits

-- of some design
abbrev pub IsGiven : Condensed → ErrorSums → Numbers → Type 0
IsGiven c e k = IsMade c e k.state_gains k.offsets k.dual_gains k.fraction_bits
