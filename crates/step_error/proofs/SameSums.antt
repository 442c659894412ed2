-- Forms that agree number by number have the same sums.
use Rattle.std.proofs.Common.{◌≡◌, ℕ, ◌+◌, ◌*◌, ◌^◌, ◌<◌, ap}
use Rattle.integer_algebra.specs.Division.{ceil_div}
use Rattle.integer_algebra.specs.Sizes.{amount}
use Rattle.integer_algebra.proofs.SizeLaws.{amount_same}
use Rattle.qp_model.specs.problem.Design.{Design, entries}
use Rattle.qp_model.specs.form.Form.{Form, HaveSameNumbers, farthest, hessian_radii, linear_radii, plan_radii, state_radii, column_radii}
use Rattle.qp_model.specs.form.Quantities.{greatest, input_floor}
use Rattle.qp_model.specs.bounds.Errors as errors
use Rattle.qp_model.specs.bounds.Errors.{linear_sum, constant_sum, plan_row_sum, trace_sum, combined_bound, gradient_error, gradient_squares, first_cost, plan_pull, error_sums_of, error_size, state_bound}
use Rattle.qp_model.specs.bounds.Errors.{plan_bound, residual_error, radius_error, row_radii}
use Rattle.qp_model.proofs.SizeFacts.{greatest_same}

pub amount_over : (m n : ℕ) (f g : ℕ → ℕ) → m ≡ n → ((i : ℕ) → i < n → f i ≡ g i) → amount m f ≡ amount n g
amount_over m n f g e h = rw e (amount_same n f g h)

pub greatest_over : (m n : ℕ) (f g : ℕ → ℕ) → m ≡ n → ((i : ℕ) → i < n → f i ≡ g i) → greatest m f ≡ greatest n g
greatest_over m n f g e h = rw e (greatest_same n f g h)

-- the quantity `error` by what it is made of
abbrev size_with : (pulled squares : ℕ) → errors.ErrorSums → ℕ
size_with pulled squares s =
    s.spread ^ 2 * (pulled + s.tail + squares + 2 ^ 40 * (s.first + s.top_rows * residual_error s (plan_bound s 0)))
    + s.weight_scale * s.plan_entries * radius_error s (plan_bound s 0) ^ 2
    + plan_bound s 0 * s.hessian_radius + s.state * s.linear_radius + s.constant_radius + s.top * s.column_radius
    + s.top * row_radii s (plan_bound s 0)

module _ (d : Design) (h k : Form) (same : HaveSameNumbers h k) (count : k.entries ≡ entries d) where
  linear : linear_sum h ≡ linear_sum k
  linear = λ t. ceil_div (amount_over h.entries k.entries
      (λ j. amount h.states (λ i. farthest (h.numbers.linear j i) (h.linear_radius j i))) (λ j. amount k.states (λ i. farthest (k.numbers.linear j i) (k.linear_radius j i))) same.entries
      (λ j l. amount_over h.states k.states (λ i. farthest (h.numbers.linear j i) (h.linear_radius j i)) (λ i. farthest (k.numbers.linear j i) (k.linear_radius j i)) same.states
      (λ i m s. farthest (same.linear j i l m s) (same.linear_radius j i l m s))) t) (same.hessian_scale t)

  constant : constant_sum h ≡ constant_sum k
  constant = λ t. ceil_div (amount_over h.entries k.entries (λ j. farthest (h.numbers.constant j) (h.constant_radius j)) (λ j. farthest (k.numbers.constant j) (k.constant_radius j)) same.entries
      (λ j l s. farthest (same.constant j l s) (same.constant_radius j l s)) t) (same.hessian_scale t)

  plan_rows : plan_row_sum h ≡ plan_row_sum k
  plan_rows = λ t. ceil_div (amount_over h.rows k.rows
      (λ i. amount h.entries (λ j. farthest (h.numbers.by_plan i j) (h.plan_radius i j))) (λ i. amount k.entries (λ j. farthest (k.numbers.by_plan i j) (k.plan_radius i j))) same.rows
      (λ i l. amount_over h.entries k.entries (λ j. farthest (h.numbers.by_plan i j) (h.plan_radius i j)) (λ j. farthest (k.numbers.by_plan i j) (k.plan_radius i j)) same.entries
      (λ j m s. farthest (same.by_plan i j l m s) (same.plan_radius i j l m s))) t) (same.rows_scale t)

  trace : trace_sum h ≡ trace_sum k
  trace = λ t. ceil_div (amount_over h.entries k.entries (λ j. farthest (h.numbers.hessian j j) (h.hessian_radius j j)) (λ j. farthest (k.numbers.hessian j j) (k.hessian_radius j j)) same.entries
      (λ j l s. farthest (same.hessian j j l l s) (same.hessian_radius j j l l s)) t) (same.hessian_scale t)

  pub error : (r j : ℕ) → j < k.entries → gradient_error d h r j ≡ gradient_error d k r j
  error r j l = λ t. ceil_div (farthest (same.hessian j j l l t) (same.hessian_radius j j l l t)) (2 * same.hessian_scale t) * combined_bound d r +
      ceil_div (amount_over h.entries k.entries (λ i. farthest (h.numbers.hessian j i) (h.hessian_radius j i)) (λ i. farthest (k.numbers.hessian j i) (k.hessian_radius j i)) same.entries
      (λ i m s. farthest (same.hessian j i l m s) (same.hessian_radius j i l m s)) t) (same.hessian_scale t)

  squares : (r : ℕ) → gradient_squares d (gradient_error d h r) ≡ gradient_squares d (gradient_error d k r)
  squares r = amount_same (entries d) _ _ (λ j l. ap (λ (n : ℕ). n ^ 2) (error r j (rw count l)))

  pub pulled : (r : ℕ) → plan_pull d h r ≡ plan_pull d k r
  pulled r = λ t. d.cost_denominator * (state_bound d * linear t + constant t + 2 * r * plan_rows t)

  pub sums_same : (r : ℕ) → error_sums_of d h r ≡ error_sums_of d k r
  sums_same r = λ t. record {
    first = ceil_div (d.cost_denominator * squares r t) (2 * input_floor d);
    lead = ceil_div (pulled r t) (2 * input_floor d);
    tail = d.cost_denominator * combined_bound d r * trace t;
    top_rows = (error_sums_of d h r).top_rows;
    plan_entries = entries d;
    box_states = d.states * state_bound d;
    rho = input_floor d;
    state = state_bound d;
    top = 2 * r;
    hessian_radius = greatest_over h.entries k.entries (hessian_radii h) (hessian_radii k) same.entries
        (λ i l. amount_over h.entries k.entries (h.hessian_radius i) (k.hessian_radius i) same.entries (λ j m. same.hessian_radius i j l m)) t;
    linear_radius = greatest_over h.entries k.entries (linear_radii h) (linear_radii k) same.entries
        (λ j l. amount_over h.states k.states (h.linear_radius j) (k.linear_radius j) same.states (λ i m. same.linear_radius j i l m)) t;
    constant_radius = greatest_over h.entries k.entries h.constant_radius k.constant_radius same.entries same.constant_radius t;
    column_radius = greatest_over h.entries k.entries (column_radii h) (column_radii k) same.entries
        (λ j l. amount_over h.rows k.rows (λ i. h.plan_radius i j) (λ i. k.plan_radius i j) same.rows (λ i m. same.plan_radius i j m l)) t;
    plan_radius = amount_over h.rows k.rows (plan_radii h) (plan_radii k) same.rows
        (λ i l. amount_over h.entries k.entries (h.plan_radius i) (k.plan_radius i) same.entries (λ j m. same.plan_radius i j l m)) t;
    state_radius = amount_over h.rows k.rows (state_radii h) (state_radii k) same.rows
        (λ i l. amount_over h.states k.states (h.state_radius i) (k.state_radius i) same.states (λ j m. same.state_radius i j l m)) t;
    cost_scale = d.cost_denominator * d.row_denominator ^ 2;
    row_scale = d.limit_denominator;
    weight_scale = d.cost_denominator;
    spread = same.spread t;
  }

  pub size_same : (r : ℕ) → error_size d h r ≡ error_size d k r
  size_same r = λ t. size_with (pulled r t) (d.cost_denominator * squares r t) (sums_same r t)
