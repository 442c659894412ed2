-- The numbers of the rounding errors: how far a plan, a gradient and a residual of the machine may be from the true ones, by the rounding of its
-- numbers and by the radii of the condensed form that it is made of. R is a bound on multipliers; the machine's multipliers go up to 2 R.
use Rattle.std.specs.Prelude.{ℕ, ◌+◌, ◌*◌, ◌^◌}
use Rattle.integer_algebra.specs.Division.{ceil_div}
use Rattle.integer_algebra.specs.Sizes.{amount}
use Rattle.qp_model.specs.problem.Design.{Design, entries, rows}
use Rattle.qp_model.specs.form.Form.{Form, farthest, hessian_radii, linear_radii, plan_radii, state_radii, column_radii}
use Rattle.qp_model.specs.bounds.CornerSizes.{box_magnitude}
use Rattle.qp_model.specs.form.Quantities.{greatest, input_floor}

-- ---- sizes of a form's numbers, each at its farthest and the sum rounded up to a whole number
-- how far a state of the box is from 0
abbrev pub state_bound : Design → ℕ
state_bound d = ceil_div (box_magnitude d) (2 ^ d.grid)

abbrev pub linear_sum : Form → ℕ
linear_sum h = ceil_div (amount h.entries (λ j. amount h.states (λ i. farthest (h.numbers.linear j i) (h.linear_radius j i)))) h.hessian_scale

abbrev pub constant_sum : Form → ℕ
constant_sum h = ceil_div (amount h.entries (λ j. farthest (h.numbers.constant j) (h.constant_radius j))) h.hessian_scale

abbrev pub plan_row_sum : Form → ℕ
plan_row_sum h = ceil_div (amount h.rows (λ i. amount h.entries (λ j. farthest (h.numbers.by_plan i j) (h.plan_radius i j)))) h.rows_scale

abbrev pub trace_sum : Form → ℕ
trace_sum h = ceil_div (amount h.entries (λ j. farthest (h.numbers.hessian j j) (h.hessian_radius j j))) h.hessian_scale

-- ---- errors
-- what all states and multipliers, and the rounding of an entry, come to
abbrev pub combined_bound : Design → ℕ → ℕ
combined_bound d r = d.states * state_bound d + 1 + rows d * (2 * r)

-- each entry j of the midpoints' gradient at a plan of the machine is at most 2^-f times this
abbrev pub gradient_error : Design → Form → ℕ → ℕ → ℕ
gradient_error d h r j =
    ceil_div (farthest (h.numbers.hessian j j) (h.hessian_radius j j)) (2 * h.hessian_scale) * combined_bound d r
    + ceil_div (amount h.entries (λ l. farthest (h.numbers.hessian j l) (h.hessian_radius j l))) h.hessian_scale

-- the squares of such errors
abbrev pub gradient_squares : Design → (error : ℕ → ℕ) → ℕ
gradient_squares d error = amount (entries d) (λ j. error j ^ 2)

-- what they cost, over 4^f
abbrev pub first_cost : Design → (error : ℕ → ℕ) → ℕ
first_cost d error = ceil_div (d.cost_denominator * gradient_squares d error) (2 * input_floor d)

-- what the states, the constant and the multipliers pull a plan by
abbrev pub plan_pull : Design → Form → ℕ → ℕ
plan_pull d h r = d.cost_denominator * (state_bound d * linear_sum h + constant_sum h + 2 * r * plan_row_sum h)

-- the whole numbers that the bounds at each f are made of
pub record ErrorSums : Type 0 where
  pub first : ℕ
  pub lead : ℕ
  pub tail : ℕ
  pub top_rows : ℕ
  pub plan_entries : ℕ
  pub box_states : ℕ
  pub rho : ℕ
  -- how far a state is from 0, and the greatest multiplier
  pub state : ℕ
  pub top : ℕ
  -- the greatest sum of the radii of a row of the hessian and of the linear part, and the greatest radius of the constant
  pub hessian_radius : ℕ
  pub linear_radius : ℕ
  pub constant_radius : ℕ
  -- the greatest sum of the radii of a column of the rows, and the sums of all radii of the plan's and of the state's rows
  pub column_radius : ℕ
  pub plan_radius : ℕ
  pub state_radius : ℕ
  -- what the radii are over, but for 2^40, and what the weights are over
  pub cost_scale : ℕ
  pub row_scale : ℕ
  pub weight_scale : ℕ
  pub spread : ℕ

abbrev pub error_sums_of : Design → Form → ℕ → ErrorSums
error_sums_of d h r = record {
  first = first_cost d (gradient_error d h r);
  lead = ceil_div (plan_pull d h r) (2 * input_floor d);
  tail = d.cost_denominator * combined_bound d r * trace_sum h;
  top_rows = 2 * r * rows d;
  plan_entries = entries d;
  box_states = d.states * state_bound d;
  rho = input_floor d;
  state = state_bound d;
  top = 2 * r;
  hessian_radius = greatest h.entries (hessian_radii h);
  linear_radius = greatest h.entries (linear_radii h);
  constant_radius = greatest h.entries h.constant_radius;
  column_radius = greatest h.entries (column_radii h);
  plan_radius = amount h.rows (plan_radii h);
  state_radius = amount h.rows (state_radii h);
  cost_scale = d.cost_denominator * d.row_denominator ^ 2;
  row_scale = d.limit_denominator;
  weight_scale = d.cost_denominator;
  spread = h.spread;
}

-- U(f): each plan entry of the machine is at most this in absolute value
abbrev pub plan_bound : ErrorSums → ℕ → ℕ
plan_bound s f = s.spread * (s.lead + ceil_div s.tail (2 ^ (f + 2) * s.rho)) + 1

-- ---- what follows from a bound on the plan's entries
-- e: each residual that a step uses differs from that of the midpoints by at most 2^-(f+1) times this
abbrev pub residual_error : ErrorSums → (plan : ℕ) → ℕ
residual_error s plan = s.plan_entries * plan + s.box_states + 3

-- q: each entry of the gradient differs from that of the midpoints by at most 2^-40 times this
abbrev pub radius_error : ErrorSums → (plan : ℕ) → ℕ
radius_error s plan =
    ceil_div (plan * s.hessian_radius + s.state * s.linear_radius + s.constant_radius) s.cost_scale
    + ceil_div (s.top * s.column_radius) s.row_scale

-- what the radii of all rows move the residuals by, over 2^40, times row_scale
abbrev pub row_radii : ErrorSums → (plan : ℕ) → ℕ
row_radii s plan = plan * s.plan_radius + s.state * s.state_radius

-- over 2^40: what the errors of a step cost at most, where those of the gradient cost `first` over 4^f
abbrev pub errors_cost : ErrorSums → (first plan f : ℕ) → ℕ
errors_cost s first plan f =
    ceil_div (s.spread * 2 ^ 40 * first) (4 ^ f) + ceil_div (2 ^ 40 * s.top_rows * residual_error s plan) (2 ^ (f + 1))
    + ceil_div (s.plan_entries * s.weight_scale * radius_error s plan ^ 2) (2 ^ 40 * s.rho) + ceil_div (s.top * row_radii s plan) s.row_scale

-- E(f): by the stated bounds of the gradient and of the plan
abbrev pub epsilon : ErrorSums → ℕ → ℕ
epsilon s f = errors_cost s s.first (plan_bound s f) f

-- ---- the errors of a step
-- bounds on the entries of the plan and on those of the midpoints' gradient
pub record StepErrors : Type 0 where
  pub plan : ℕ
  pub gradient : ℕ → ℕ

-- the stated ones
abbrev pub stated_errors : Design → Form → ℕ → ℕ → StepErrors
stated_errors d h r f = record { plan = plan_bound (error_sums_of d h r) f; gradient = gradient_error d h r }

-- what such errors cost, over 2^40
abbrev pub cost_of_errors : Design → Form → ℕ → ℕ → StepErrors → ℕ
cost_of_errors d h r f e = errors_cost (error_sums_of d h r) (first_cost d e.gradient) e.plan f

-- ---- their size
-- a number that bounds all that these computations meet: `error`
abbrev pub error_size : Design → Form → ℕ → ℕ
error_size d h r =
    let s = error_sums_of d h r in
    let plan = plan_bound s 0 in
    s.spread ^ 2 * (plan_pull d h r + s.tail + d.cost_denominator * gradient_squares d (gradient_error d h r) + 2 ^ 40 * (s.first + s.top_rows * residual_error s plan))
    + s.weight_scale * s.plan_entries * radius_error s plan ^ 2
    + plan * s.hessian_radius + s.state * s.linear_radius + s.constant_radius + s.top * s.column_radius
    + s.top * row_radii s plan
