-- The numbers that are chosen are exponents of the design.
use Rattle.std.proofs.Common.{◌≡◌, ℕ, ◌-◌, ◌^◌, Bool, true, false, refl, rules}
use Rattle.qp_model.specs.declared.design_parts.DesignParts.{DesignParts}
use Rattle.qp_model.specs.problem.Parts.{IsDesign, design_of}
use Rattle.qp_model.specs.form.Class.{CoversSquares, form_in, form_of}
use Rattle.qp_model.specs.form.FineForm.{fine_form}
use Rattle.qp_model.specs.form.FineSizes.{is_fine}
use Rattle.qp_model.specs.form.Form.{IsFormFor}
use Rattle.qp_model.proofs.CostLaws.{condensing}
use Rattle.qp_model.proofs.FormLaws.{exact_form_law}
use Rattle.hessian_check.specs.StepLaw.{ExponentLaw, FormSquaresLaw, RowsLaw}
use Rattle.hessian_check.specs.Steps.{curved_by, curved_of, held_by, held_in, floor_of_design}
use Rattle.hessian_check.proofs.CurvatureLaws.{squares_law}
use Rattle.hessian_check.proofs.ChosenLaws.{accepted_law, chosen_law, first_by}
use Rattle.hessian_check.proofs.DesignLaws.{exponent_of, exponents_of, floored, covers}
use Rattle.hessian_check.proofs.HeldLaws.{held_law, weighted_law}
use Rattle.qp_model.proofs.SoundLaws.{sound}

pub step_law : ExponentLaw
step_law p h g s1 s f k =
    let d = design_of p in
    let e = condensing d h.inputs.0 in
    let held = held_in (is_fine d) d in
    let t = held_law (is_fine d) d (sound p h) e g in
    let one = first_by (curved_of d) held (CoversSquares d) s1
    (λ s y. squares_law (curved_of d) (floor_of_design d) s (search rules) (floored d (sound p h) e) (covers d (form_of d) g.encloses g.rows_some s y)) t f in
    (exponent_of d s1 e one, exponent_of d s e (chosen_law (curved_of d) held s1 s t one k))

pub form_squares_law : FormSquaresLaw
form_squares_law p h g k s y =
    let d = design_of p in
    let e = condensing d h.inputs.0 in
    exponent_of d s e (squares_law (curved_of d) (floor_of_design d) s (search rules) (floored d (sound p h) e) (covers d g k.encloses k.rows_some s y))

-- a form of a matrix of either class
form_for : (fine : Bool) (p : DesignParts) → IsDesign p → (fine ≡ true → IsFormFor (design_of p) (fine_form (design_of p))) → IsFormFor (design_of p) (form_in fine (design_of p))
form_for true p h g = g refl
form_for false p h g = exact_form_law p h

pub rows_law : RowsLaw
rows_law fine p h g s most b k =
    let d = design_of p in
    let e = condensing d h.inputs.0 in
    let weight : ℕ → ℕ = λ l. 2 ^ (most - s l) in
    exponents_of d s most e b (accepted_law (curved_by d s most) (held_by fine d weight) most (weighted_law fine d weight (sound p h) e (form_for fine p h g)) k)
