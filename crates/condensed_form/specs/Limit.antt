-- What the quantity `curvature` of a condensed form is made of.
use Rattle.std.specs.Prelude.{◌≡◌, ℕ, ◌*◌, Bool, length}
use Rattle.mat_int.specs.Matrix.{Matrix}
use Rattle.qp_model.specs.problem.Design.{Design}
use Rattle.qp_model.specs.form.Quantities.{input_floor}
use Rattle.qp_model.specs.form.CurvatureSize.{covering_exponent, curvature_of}
use Rattle.qp_model.specs.form.Class.{form_in, cost_row_in, product_row_in}
use Rattle.condensed_form.specs.declared.limit.Scales.{Scales}

-- the quantity `curvature` of a class's form
abbrev pub curvature_in : (fine : Bool) → Design → ℕ
curvature_in fine d = curvature_of (covering_exponent d (form_in fine d)) d.limit_denominator (cost_row_in fine d) d.cost_denominator d.row_denominator (product_row_in fine d)

-- these are the numbers of a design's form
pub record IsScales (fine : Bool) (d : Design) (s : Scales) : Type 0 where
  pub weight_den : s.weight_den ≡ d.cost_denominator
  pub cost_row_den : s.cost_row_den ≡ d.row_denominator
  pub limit_den : s.limit_den ≡ d.limit_denominator
  pub lift : d.limit_denominator * s.lift ≡ (form_in fine d).rows_scale
  pub input_floor : s.input_floor ≡ input_floor d
  pub cost_row : s.cost_row ≡ cost_row_in fine d

-- midpoints and radii of one shape
pub record AreOfOneShape (mid rad : Matrix) : Type 0 where
  pub rows : length rad.rows ≡ length mid.rows
  pub cols : rad.cols ≡ mid.cols
