-- What the one recipe is in the two classes.
use Rattle.std.specs.Prelude.{◌≡◌, ℕ, ◌-◌, ◌*◌, ◌^◌, ◌≤◌, ℤ}
use Rattle.qp_model.specs.declared.design_parts.DesignParts.{DesignParts}
use Rattle.qp_model.specs.problem.Design.{Design}
use Rattle.qp_model.specs.problem.Parts.{IsDesign, design_of}
use Rattle.qp_model.specs.problem.Runs.{run, counted, cost_run, row_at}
use Rattle.qp_model.specs.form.Form.{exact_form, HasNoRadii, HaveSameNumbers}
use Rattle.qp_model.specs.form.Quantities as exact
use Rattle.qp_model.specs.form.FineForm.{fine_form, fine_run, fine_cost, fine_limit}
use Rattle.qp_model.specs.form.FineSizes as fine
use Rattle.scaled_run.specs.ScaledForm.{whole, wholes_over, exact_unit, scaled_form}
use Rattle.scaled_run.specs.ScaledSizes as one

-- ---- enclosures: both numbers are 2^40
abbrev pub FineIsScaled : Type 0
FineIsScaled = (d : Design) → fine_form d ≡ scaled_form (2 ^ 40) (2 ^ 40) d

-- ---- exact numbers: the plant's denominator to the power of the stages, and 1
-- the state at stage k is a^(stages - k) times the exact numerator, and no radius is left
abbrev pub ExactRunLaw : Type 0
ExactRunLaw = (d : Design) (x v : ℕ → ℤ) (k i : ℕ) → 1 ≤ d.plant_denominator → k ≤ d.stages →
    fine_run d (wholes_over (exact_unit d) x) (wholes_over (exact_unit d) v) k i ≡ whole (d.plant_denominator ^ (d.stages - k)) (run d x v k i)

-- what a counted cost row and a limit row have of the run are the exact numbers
abbrev pub ExactCostLaw : Type 0
ExactCostLaw = (d : Design) (x v : ℕ → ℤ) (c : ℕ) → 1 ≤ d.plant_denominator →
    fine_cost d (wholes_over (exact_unit d) x) (wholes_over (exact_unit d) v) c ≡ whole 1 (counted d (cost_run d x v) c)

abbrev pub ExactLimitLaw : Type 0
ExactLimitLaw = (d : Design) (x v : ℕ → ℤ) (i : ℕ) → 1 ≤ d.plant_denominator →
    fine_limit d (wholes_over (exact_unit d) x) (wholes_over (exact_unit d) v) i ≡ whole 1 (row_at d x v i)

-- the form has the exact form's numbers, radii, denominators, factors, floor and spread
abbrev pub ExactIsScaled : Type 0
ExactIsScaled = (d : Design) → 1 ≤ d.plant_denominator → 1 ≤ d.inputs → HaveSameNumbers (scaled_form (exact_unit d) 1 d) (exact_form d)

abbrev pub ExactRadiiLaw : Type 0
ExactRadiiLaw = (d : Design) → 1 ≤ d.plant_denominator → HasNoRadii (scaled_form (exact_unit d) 1 d)

-- ---- the quantities of enclosures
pub record HasFineSizes (d : Design) : Type 0 where
  pub prediction : fine.fine_prediction_size d ≡ exact.growth d * one.scaled_reach (2 ^ 40) 3 d
  pub hessian : fine.fine_hessian_size d ≡ one.scaled_hessian_size (2 ^ 40) (2 ^ 40) 3 d
  pub rows : fine.fine_rows_size d ≡ one.scaled_rows_size (2 ^ 40) 3 d
  pub curvature : fine.fine_curvature_size d ≡ one.scaled_curvature_size (2 ^ 40) (2 ^ 40) 3 4 d

abbrev pub FineSizesLaw : Type 0
FineSizesLaw = (d : Design) → HasFineSizes d

-- ---- and of exact numbers: the numbers that are compared with 2^126 are those that they were
-- a run from a^stages, stage by stage
abbrev pub ExactReachLaw : Type 0
ExactReachLaw = (d : Design) (k : ℕ) → 1 ≤ d.plant_denominator → k ≤ d.stages →
    one.scaled_reach_from 0 d (exact_unit d) k ≡ exact.growth d ^ k * d.plant_denominator ^ (d.stages - k)

pub record HasExactSizes (d : Design) : Type 0 where
  pub prediction : exact.prediction_size d ≡ one.scaled_reach (exact_unit d) 0 d
  pub hessian : exact.hessian_size d ≡ one.scaled_hessian_size (exact_unit d) 1 0 d
  pub rows : exact.rows_size d ≡ one.scaled_rows_size (exact_unit d) 0 d
  pub curvature : fine.exact_curvature_size d ≡ one.scaled_curvature_size (exact_unit d) 1 0 0 d

abbrev pub ExactSizesLaw : Type 0
ExactSizesLaw = (d : Design) → 1 ≤ d.plant_denominator → 1 ≤ d.inputs → HasExactSizes d

-- and where `hessian` is within its limit, no sum before a division passes 2^99
abbrev pub ExactRoomLaw : Type 0
ExactRoomLaw = (p : DesignParts) → IsDesign p → exact.hessian_size (design_of p) ≤ 2 ^ 126 →
    exact.growth (design_of p) * one.scaled_reach (exact_unit (design_of p)) 0 (design_of p) ≤ 2 ^ 99
