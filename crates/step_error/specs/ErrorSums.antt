-- The whole numbers that the bounds of the rounding errors are made of, as the code keeps them.
use Rattle.std.specs.Prelude.{◌≡◌, ℕ, ◌+◌, ◌*◌, ◌^◌, ◌≤◌, unsigned_abs}
use Rattle.integer_algebra.specs.Division.{ceil_div}
use Rattle.integer_algebra.specs.Sizes.{amount}
use Rattle.mat_int.specs.Matrix.{Matrix, entry_of}
use Rattle.qp_model.specs.problem.Design.{Design}
use Rattle.qp_model.specs.problem.Parts.{IsDesign, design_of}
use Rattle.qp_model.specs.form.Form.{Form, IsFormFor, farthest, hessian_radii, linear_radii, plan_radii, state_radii, column_radii}
use Rattle.qp_model.specs.form.Quantities.{greatest}
use Rattle.qp_model.specs.bounds.Errors as errors
use Rattle.qp_model.specs.bounds.Errors.{error_sums_of, plan_bound, residual_error, radius_error, row_radii}
use Rattle.qp_model.specs.declared.design_parts.DesignParts.{DesignParts}
use Rattle.step_error.specs.declared.sums.ErrorSums.{ErrorSums}
use Rattle.step_error.specs.declared.radii.Radii.{Radii}

-- the numbers of the sums
abbrev pub sums_of : ErrorSums → errors.ErrorSums
sums_of e = record {
  first = e.first;
  lead = e.lead;
  tail = e.tail;
  top_rows = e.y_rows;
  plan_entries = e.nu;
  box_states = e.n_box;
  rho = e.rho;
  state = e.x_box;
  top = e.y_top;
  hessian_radius = e.radii.h_rad;
  linear_radius = e.radii.f_rad;
  constant_radius = e.radii.o_rad;
  column_radius = e.radii.g_col;
  plan_radius = e.radii.g_sum;
  state_radius = e.radii.e_sum;
  cost_scale = e.radii.cost_scale;
  row_scale = e.radii.row_scale;
  weight_scale = e.weight_den;
  spread = e.radii.spread;
}

-- ---- the two halves of what the errors of a step cost
-- that of the rounding, where the gradient's errors cost `first` over 4^f
abbrev pub rounding_cost : errors.ErrorSums → (first plan f : ℕ) → ℕ
rounding_cost s first plan f = ceil_div (s.spread * 2 ^ 40 * first) (4 ^ f) + ceil_div (2 ^ 40 * s.top_rows * residual_error s plan) (2 ^ (f + 1))

-- and that of the radii
abbrev pub radius_cost : errors.ErrorSums → (plan : ℕ) → ℕ
radius_cost s plan = ceil_div (s.plan_entries * s.weight_scale * radius_error s plan ^ 2) (2 ^ 40 * s.rho) + ceil_div (s.top * row_radii s plan) s.row_scale

-- ---- on the way to them
-- an entry of a matrix with radii, at its farthest
abbrev pub farthest_entry : (mid rad : Matrix) → ℕ → ℕ → ℕ
farthest_entry mid rad i j = farthest (entry_of mid i j) (unsigned_abs (entry_of rad i j))

-- the error of entry j of the gradient, by a matrix of n columns over `scale`, whose entries are at most `size`, and what all states and multipliers
-- come to
abbrev pub entry_error : (n : ℕ) → (size : ℕ → ℕ → ℕ) → (scale reach : ℕ) → ℕ → ℕ
entry_error n size scale reach j = ceil_div (size j j) (2 * scale) * reach + ceil_div (amount n (size j)) scale

-- the squares of the errors of n entries
abbrev pub entry_squares : (n : ℕ) → (size : ℕ → ℕ → ℕ) → (scale reach : ℕ) → ℕ
entry_squares n size scale reach = amount n (λ j. entry_error n size scale reach j ^ 2)

-- the sums of a form's radii
pub record AreRadii (d : Design) (h : Form) (r : Radii) : Type 0 where
  pub hessian : r.h_rad ≡ greatest h.entries (hessian_radii h)
  pub linear : r.f_rad ≡ greatest h.entries (linear_radii h)
  pub constant : r.o_rad ≡ greatest h.entries h.constant_radius
  pub column : r.g_col ≡ greatest h.entries (column_radii h)
  pub plan : r.g_sum ≡ amount h.rows (plan_radii h)
  pub state : r.e_sum ≡ amount h.rows (state_radii h)
  pub cost_scale : r.cost_scale ≡ d.cost_denominator * d.row_denominator ^ 2
  pub row_scale : r.row_scale ≡ d.limit_denominator
  pub spread : r.spread ≡ h.spread

-- they are within what 128 bits hold of their sums
pub record HaveRoom (r : Radii) : Type 0 where
  pub hessian : r.h_rad ≤ 2 ^ 126
  pub linear : r.f_rad ≤ 2 ^ 126
  pub constant : r.o_rad ≤ 2 ^ 126
  pub column : r.g_col ≤ 2 ^ 126
  pub plan : r.g_sum ≤ 2 ^ 126
  pub state : r.e_sum ≤ 2 ^ 126
  pub cost_some : 1 ≤ r.cost_scale
  pub cost_scale : r.cost_scale ≤ 2 ^ 126
  pub row_some : 1 ≤ r.row_scale
  pub row_scale : r.row_scale ≤ 2 ^ 126
  pub spread_some : 1 ≤ r.spread
  pub spread_few : r.spread ≤ 2

pub record HasErrorRoom (e : ErrorSums) : Type 0 where
  pub first : e.first ≤ 2 ^ 126
  pub lead : e.lead ≤ 2 ^ 126
  pub tail : e.tail ≤ 2 ^ 126
  pub rows_some : 1 ≤ e.y_rows
  pub rows : e.y_rows ≤ 2 ^ 60
  pub entries_some : 1 ≤ e.nu
  pub entries : e.nu ≤ 2 ^ 60
  pub states : e.n_box ≤ 2 ^ 60
  pub rho_some : 1 ≤ e.rho
  pub rho : e.rho ≤ 2 ^ 31
  pub state : e.x_box ≤ 2 ^ 60
  pub top_some : 1 ≤ e.y_top
  pub top : e.y_top ≤ 2 ^ 60
  pub weight_some : 1 ≤ e.weight_den
  pub weight : e.weight_den ≤ 2 ^ 60
  pub radii : HaveRoom e.radii

-- the two parts of the quantity `error` by the same numbers, for a bound on the plan's entries
abbrev pub rounding_size : (squares plan_pull : ℕ) → errors.ErrorSums → (plan : ℕ) → ℕ
rounding_size squares plan_pull s plan = s.spread ^ 2 * (plan_pull + s.tail + squares + 2 ^ 40 * (s.first + s.top_rows * residual_error s plan))

abbrev pub radius_size : errors.ErrorSums → (plan : ℕ) → ℕ
radius_size s plan = s.weight_scale * s.plan_entries * radius_error s plan ^ 2
    + plan * s.hessian_radius + s.state * s.linear_radius + s.constant_radius + s.top * s.column_radius + s.top * row_radii s plan

abbrev pub size_by : (squares plan_pull : ℕ) → errors.ErrorSums → ℕ
size_by squares plan_pull s = rounding_size squares plan_pull s (plan_bound s 0) + radius_size s (plan_bound s 0)

-- ---- sums that fit
-- what they come to by rounding and by the radii, and all that the computations with them meet
abbrev pub cost_size : errors.ErrorSums → ℕ
cost_size s = s.spread * 2 ^ 40 * s.first + 2 ^ 40 * s.top_rows * residual_error s (plan_bound s 0) + radius_size s (plan_bound s 0)

-- they are those of a form for some design with multipliers up to 2 r, but that what the gradient's errors cost, and what the weights are over, may be those of a
-- run, in which they accumulate; and they fit
pub record AreSums (e : ErrorSums) : Type 0 where
  pub parts : DesignParts
  pub held : Form
  pub r : ℕ
  pub first : ℕ
  pub weight : ℕ
  pub design : IsDesign parts
  pub form : IsFormFor (design_of parts) held
  pub bound : 1 ≤ r
  pub weight_some : 1 ≤ weight
  pub weight_few : weight ≤ 2 ^ 53
  pub sums : sums_of e ≡ record (error_sums_of (design_of parts) held r) { first = first; weight_scale = weight }
  pub room : cost_size (sums_of e) ≤ 2 ^ 126
