-- The form of either class is one that a controller may be made of.
use Rattle.std.proofs.Common.{◌^◌, ◌≤◌, Bool, true, false}
use Rattle.qp_model.specs.declared.design_parts.DesignParts.{DesignParts}
use Rattle.qp_model.specs.problem.Parts.{IsDesign, design_of}
use Rattle.qp_model.specs.form.Form.{IsFormFor}
use Rattle.qp_model.specs.form.FineSizes.{is_fine}
use Rattle.qp_model.specs.form.Class.{form_in, hessian_in, FormLaw}
use Rattle.qp_model.proofs.FormLaws.{exact_form_law}
use Rattle.qp_model.proofs.SoundLaws.{sound}
use Rattle.scaled_condense.proofs.Laws.{fine_form_law}

of_class : (fine : Bool) (p : DesignParts) → IsDesign p → hessian_in fine (design_of p) ≤ 2 ^ 126 → IsFormFor (design_of p) (form_in fine (design_of p))
of_class true p h k = fine_form_law (design_of p) (sound p h) k
of_class false p h k = exact_form_law p h

pub form_law : FormLaw
form_law p h k = of_class (is_fine (design_of p)) p h k
