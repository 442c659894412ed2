-- The class of a design: whether its controller is made of the exact condensed numbers or of enclosures of them; and what that decides.
use Rattle.std.specs.Prelude.{ℕ, ◌+◌, ◌*◌, ◌≤◌, ◌^◌, Bool, true, false}
use Rattle.integer_algebra.specs.Division.{ceil_div}
use Rattle.qp_model.specs.problem.Design.{Design, entries}
use Rattle.qp_model.specs.problem.Parts.{IsDesign, design_of}
use Rattle.qp_model.specs.form.Form.{Form, exact_form, IsFormFor}
use Rattle.qp_model.specs.form.Quantities.{prediction_size, hessian_size, rows_size}
use Rattle.qp_model.specs.form.CurvatureSize.{CoversSquaresOf, covering_exponent, curvature_of}
use Rattle.qp_model.specs.form.FineForm.{fine_form}
use Rattle.qp_model.specs.form.FineSizes.{is_fine, fine_prediction_size, fine_hessian_size, fine_rows_size, fine_cost_row_size, fine_product_row_size}
use Rattle.qp_model.specs.declared.design_parts.DesignParts.{DesignParts}

-- ---- by class
abbrev pub form_in : (fine : Bool) → Design → Form
form_in true d = fine_form d
form_in false d = exact_form d

abbrev pub prediction_in : (fine : Bool) → Design → ℕ
prediction_in true d = fine_prediction_size d
prediction_in false d = prediction_size d

abbrev pub hessian_in : (fine : Bool) → Design → ℕ
hessian_in true d = fine_hessian_size d
hessian_in false d = hessian_size d

abbrev pub rows_in : (fine : Bool) → Design → ℕ
rows_in true d = fine_rows_size d
rows_in false d = rows_size d

-- what a row of half the hessian comes to at most, and a row of the products of the limits' columns
abbrev pub cost_row_in : (fine : Bool) → Design → ℕ
cost_row_in true d = fine_cost_row_size d
cost_row_in false d = hessian_size d

abbrev pub product_row_in : (fine : Bool) → Design → ℕ
product_row_in true d = fine_product_row_size d
product_row_in false d = rows_size d

-- ---- where the rows may count more than once, as a row does whose step exponent is below the greatest
-- what a row of a matrix comes to at most, by the quantity of the numbers that it is made of
abbrev pub row_quantity : (fine : Bool) → (size entries : ℕ) → ℕ
row_quantity true size entries = ceil_div size (2 ^ 40) + 4 * entries
row_quantity false size entries = size

-- the quantity `curvature`, with this number for `rows`
abbrev pub curvature_with : (fine : Bool) → Design → (size : ℕ) → ℕ
curvature_with fine d size = curvature_of (covering_exponent d (form_in fine d)) d.limit_denominator (cost_row_in fine d)
    d.cost_denominator d.row_denominator (row_quantity fine size (entries d))

-- each row may count up to 2^4 times
pub record HasLoweringRoom (fine : Bool) (d : Design) : Type 0 where
  pub rows : 2 ^ 4 * rows_in fine d ≤ 2 ^ 126
  pub curvature : curvature_with fine d (2 ^ 4 * rows_in fine d) ≤ 2 ^ 126

-- ---- of the design's own class
-- the form that a controller of the design is made of
abbrev pub form_of : Design → Form
form_of d = form_in (is_fine d) d

-- the quantities `prediction`, `hessian` and `rows` of it
abbrev pub prediction_quantity : Design → ℕ
prediction_quantity d = prediction_in (is_fine d) d

abbrev pub hessian_quantity : Design → ℕ
hessian_quantity d = hessian_in (is_fine d) d

abbrev pub rows_quantity : Design → ℕ
rows_quantity d = rows_in (is_fine d) d

-- 2^s times the curvature is at least the squares of the rows' changes, since it is at least the squares of the form's numbers; the least such number
-- up to 40, or 40
abbrev pub CoversSquares : Design → ℕ → Type 0
CoversSquares d s = CoversSquaresOf d (form_of d) s

abbrev pub squares_exponent : Design → ℕ
squares_exponent d = covering_exponent d (form_of d)

-- the quantity `curvature`, where the squares ask the exponent s; and as it is
abbrev pub curvature_at : Design → ℕ → ℕ
curvature_at d s =
    curvature_of s d.limit_denominator (cost_row_in (is_fine d) d) d.cost_denominator d.row_denominator (product_row_in (is_fine d) d)

abbrev pub curvature_quantity : Design → ℕ
curvature_quantity d = curvature_at d (squares_exponent d)

-- where `hessian` is within its limit, a controller may be made of the form
abbrev pub FormLaw : Type 0
FormLaw = (p : DesignParts) → IsDesign p → hessian_quantity (design_of p) ≤ 2 ^ 126 → IsFormFor (design_of p) (form_of (design_of p))
