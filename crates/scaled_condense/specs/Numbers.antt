-- The condensed numbers over any unit as matrices, and those in enclosures within their quantities.
use Rattle.std.specs.Prelude.{◌≡◌, ℕ, ◌+◌, ◌*◌, ◌^◌, ◌≤◌, ℤ, pos, ◌*ℤ◌, List}
use Rattle.mat_int.specs.Matrix.{Matrix}
use Rattle.mat_int.specs.Enclosures.{HasEnclosures}
use Rattle.enclosure.specs.declared.types.Enc.{Enc}
use Rattle.qp_model.specs.declared.design_parts.DesignParts.{DesignParts}
use Rattle.qp_model.specs.problem.Design.{Design, entries, rows}
use Rattle.qp_model.specs.problem.Parts.{design_of}
use Rattle.qp_model.specs.problem.Runs.{bound_at, Holds}
use Rattle.qp_model.specs.form.Quantities.{cost_width, weight_sum}
use Rattle.qp_model.specs.form.FineForm.{fine_hessian, hessian_radius}
use Rattle.qp_model.specs.form.FineSizes.{fine_reach, fine_cost_entry_size, fine_hessian_size, fine_rows_size}
use Rattle.scaled_run.specs.Lists.{HoldsEnclosures}
use Rattle.scaled_run.specs.ScaledForm.{scaled_products, scaled_hessian, scaled_linear, scaled_constant, scaled_by_plan, scaled_by_state}
use Rattle.scaled_condense.specs.Lists.{IsScale, HoldsEncMatrix}

-- ---- over any unit
-- the products of the columns of the cost rows, over den, with room for the numbers that are made of them
pub record AreProducts (over den : ℕ) (p : DesignParts) (mid rad : Matrix) : Type 0 where
  pub reach : ℕ
  pub scale : IsScale p over reach
  pub some : 1 ≤ den
  pub area : 4 * (weight_sum (design_of p) * (cost_width (design_of p) * reach) ^ 2) ≤ 2 ^ 126
  pub held : HasEnclosures (p.stages * p.inputs + p.states + 1) (p.stages * p.inputs + p.states + 1) (scaled_products over den (design_of p)) mid rad

-- the numbers of the condensed cost
pub record AreScaledCosts (over den : ℕ) (p : DesignParts) (hess_mid hess_rad lin_mid lin_rad : Matrix) (off : List Enc) : Type 0 where
  pub hess : HoldsEncMatrix hess_mid hess_rad (p.stages * p.inputs) (p.stages * p.inputs) (p.stages * p.inputs) (scaled_hessian over den (design_of p))
  pub lin : HoldsEncMatrix lin_mid lin_rad (p.stages * p.inputs) p.states p.states (scaled_linear over den (design_of p))
  pub constant : HoldsEnclosures off (p.stages * p.inputs) (scaled_constant over den (design_of p))

-- what the limit rows have of a plan and of a state, and their bounds
pub record AreScaledLimits (over : ℕ) (p : DesignParts) (plan_mid plan_rad state_mid state_rad : Matrix) (b : List ℤ) : Type 0 where
  pub plan : HoldsEncMatrix plan_mid plan_rad (rows (design_of p)) (p.stages * p.inputs) (p.stages * p.inputs) (scaled_by_plan over (design_of p))
  pub state : HoldsEncMatrix state_mid state_rad (rows (design_of p)) p.states p.states (scaled_by_state over (design_of p))
  pub bound : Holds b (rows (design_of p)) (λ i. pos over *ℤ bound_at (design_of p) i)

-- ---- in enclosures
-- the absolute values of all numbers of the condensed cost, over 2^80
abbrev pub fine_cost_total : Design → ℕ
fine_cost_total d = entries d * (entries d + d.states + 1) * fine_cost_entry_size d

-- the hessian's numbers, which fit
pub record IsFineHessian (p : DesignParts) (mid rad : Matrix) : Type 0 where
  pub scale : IsScale p (2 ^ 40) (fine_reach (design_of p) p.stages)
  pub fits : fine_cost_total (design_of p) ≤ 2 ^ 126
  pub held : HoldsEncMatrix mid rad (p.stages * p.inputs) (p.stages * p.inputs) (p.stages * p.inputs) (fine_hessian (design_of p))

-- the numbers of the condensed cost, the greatest sum of a row of the hessian's radii, and the quantity `hessian`
pub record AreFineCosts (p : DesignParts) (hess_mid hess_rad lin_mid lin_rad : Matrix) (off : List Enc) (radius size : ℕ) : Type 0 where
  pub scale : IsScale p (2 ^ 40) (fine_reach (design_of p) p.stages)
  pub numbers : AreScaledCosts (2 ^ 40) (2 ^ 40) p hess_mid hess_rad lin_mid lin_rad off
  pub widest : radius ≡ hessian_radius (design_of p)
  pub quantity : size ≡ fine_hessian_size (design_of p)
  pub room : fine_hessian_size (design_of p) ≤ 2 ^ 126

-- what the limit rows have of a plan and of a state, their bounds over 2^40, and the quantity `rows`
pub record AreFineLimits (p : DesignParts) (plan_mid plan_rad state_mid state_rad : Matrix) (b : List ℤ) (size : ℕ) : Type 0 where
  pub numbers : AreScaledLimits (2 ^ 40) p plan_mid plan_rad state_mid state_rad b
  pub quantity : size ≡ fine_rows_size (design_of p)
  pub room : fine_rows_size (design_of p) ≤ 2 ^ 126
