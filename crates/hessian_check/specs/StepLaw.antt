-- The numbers that are chosen are exponents of the design.
use Rattle.std.specs.Prelude.{◌≡◌, ℕ, ◌*◌, ◌<◌, ◌≤◌, Bool, true}
use Rattle.qp_model.specs.declared.design_parts.DesignParts.{DesignParts}
use Rattle.qp_model.specs.problem.Design.{entries, rows}
use Rattle.hessian_check.specs.Curvature.{IsAccepted}
use Rattle.qp_model.specs.form.Class.{form_of}
use Rattle.qp_model.specs.form.FineForm.{fine_form}
use Rattle.qp_model.specs.form.Form.{Form, IsFormFor}
use Rattle.qp_model.specs.form.CurvatureSize.{limit_squares, floor_times}
use Rattle.qp_model.specs.problem.Parts.{IsDesign, design_of}
use Rattle.qp_model.specs.form.Curvature.{AreExponents, IsExponent}
use Rattle.hessian_check.specs.Steps.{IsPlainExponent, IsStepExponent, rows_matrix_in}

-- where a controller may be made of the form of the design's class
abbrev pub ExponentLaw : Type 0
ExponentLaw = (parts : DesignParts) → IsDesign parts → IsFormFor (design_of parts) (form_of (design_of parts)) →
    (s1 s : ℕ) → IsPlainExponent (design_of parts) s1 → IsStepExponent (design_of parts) s1 s → IsExponent (design_of parts) s1 × IsExponent (design_of parts) s

-- a form of the design whose squares, each number at its farthest, 2^s times the least input weight is at least
abbrev pub FormSquaresLaw : Type 0
FormSquaresLaw = (parts : DesignParts) → IsDesign parts → (h : Form) → IsFormFor (design_of parts) h → (s : ℕ) →
    (design_of parts).cost_denominator * limit_squares h ≤ floor_times (design_of parts) h s → IsExponent (design_of parts) s

-- an exponent for each row, whose matrix is accepted: the exact one of any design, or that in enclosures where a controller may be made of them
abbrev pub RowsLaw : Type 0
RowsLaw = (fine : Bool) (parts : DesignParts) → IsDesign parts → (fine ≡ true → IsFormFor (design_of parts) (fine_form (design_of parts))) →
    (s : ℕ → ℕ) (most : ℕ) → ((i : ℕ) → i < rows (design_of parts) → s i ≤ most) →
    IsAccepted (entries (design_of parts)) (rows_matrix_in fine (design_of parts) s most) → AreExponents (design_of parts) s most
