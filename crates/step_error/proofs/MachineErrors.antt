-- The errors of each step of a controller that is made for a design by a form of it.
use Rattle.std.proofs.Common.{◌≡◌, ℕ, ℤ, List, length, sym, subst}
use Rattle.integer_algebra.specs.Sums.{at}
use Rattle.qp_model.specs.problem.Design.{Design}
use Rattle.qp_model.specs.problem.Sound.{IsSound}
use Rattle.qp_model.specs.problem.Box.{IsGridState}
use Rattle.qp_model.specs.form.Condensed.{IsCondensed}
use Rattle.qp_model.specs.form.Condensing.{condensed_of}
use Rattle.qp_model.specs.problem.Parts.{design_of}
use Rattle.qp_model.specs.form.Form.{Form, IsFormFor}
use Rattle.qp_model.specs.machine.Controller.{Numbers, IsSized}
use Rattle.qp_model.specs.bounds.Built.{IsDerivedFrom}
use Rattle.qp_model.specs.form.Quantities.{input_floor}
use Rattle.qp_model.specs.bounds.Errors.{stated_errors}
use Rattle.qp_model.proofs.SoundLaws.{sound}
use Rattle.qp_model.proofs.CostLaws.{condensing}
use Rattle.step_error.specs.MachineLaws.{HasErrors, CarriedLaw}
use Rattle.step_error.proofs.Forms.{counted_is}
use Rattle.step_error.proofs.StepErrors.{errors}

-- by a form with any counts, which are the design's
pub errors_by : (d : Design) (h : Form) (r : ℕ) (c : Numbers) (xi : List ℤ) → IsSound d (input_floor d) → IsCondensed d (condensed_of d) →
    IsFormFor d h → IsDerivedFrom d h r c → IsSized c → length xi ≡ d.states → IsGridState d (at xi) → (k : ℕ) → HasErrors d h r c xi k (stated_errors d h r c.fraction_bits)
errors_by d h r c xi sound condensed form =
    subst (λ (g : Form). IsFormFor d g → IsDerivedFrom d g r c → IsSized c → length xi ≡ d.states → IsGridState d (at xi) → (k : ℕ) → HasErrors d g r c xi k (stated_errors d g r c.fraction_bits))
    (sym (counted_is d h form.encloses)) (errors d h r c xi sound condensed) form

pub carried : CarriedLaw
carried p h r c xi run =
    errors_by (design_of p) h r c xi (sound p run.design) (condensing (design_of p) run.design.inputs.0) run.form run.made run.controller.form.sized run.long run.inside
