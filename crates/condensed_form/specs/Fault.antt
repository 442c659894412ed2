-- Which designs are too wide to be condensed.
use Rattle.std.specs.Prelude.{◌≡◌, ◌^◌, ◌<◌, ◌≤◌, Bool, ℤ, pos}
use Rattle.qp_model.specs.declared.quantity.Quantity.{Quantity}
use Rattle.qp_model.specs.declared.quantity.Quantity.TheVariants.{Prediction, Hessian, Rows}
use Rattle.qp_model.specs.problem.Design.{Design}
use Rattle.qp_model.specs.form.Quantities.{hessian_size, rows_size}
use Rattle.qp_model.specs.form.FineSizes.{is_fine}
use Rattle.qp_model.specs.form.Class.{prediction_in, hessian_in, rows_in}

-- the quantity is the first of `prediction`, `hessian` and `rows` that is above 2^126: of the exact numbers or of enclosures
abbrev pub IsFirstWideIn : (fine : Bool) → Design → Quantity → Type 0
IsFirstWideIn fine d Prediction = 2 ^ 126 < prediction_in fine d
IsFirstWideIn fine d Hessian = (prediction_in fine d ≤ 2 ^ 126) × (2 ^ 126 < hessian_in fine d)
IsFirstWideIn fine d Rows = (prediction_in fine d ≤ 2 ^ 126) × ((hessian_in fine d ≤ 2 ^ 126) × (2 ^ 126 < rows_in fine d))
IsFirstWideIn fine d q = ⊥

-- of those that the design's own class calls for
abbrev pub IsFirstWideForm : Design → Quantity → Type 0
IsFirstWideForm d q = IsFirstWideIn (is_fine d) d q

-- the two quantities, within their limit
pub record AreEntrySizes (d : Design) (cost limit : ℤ) : Type 0 where
  pub cost_is : cost ≡ pos (hessian_size d)
  pub cost_room : hessian_size d ≤ 2 ^ 126
  pub limit_is : limit ≡ pos (rows_size d)
  pub limit_room : rows_size d ≤ 2 ^ 126
