-- One recipe of the condensed form, for both classes: a whole number is held over `unit`, and a product of two such numbers over unit^2 / den. Enclosures
-- have 2^40 for both; exact numbers have the plant's denominator to the power of the stages, and 1: then every division comes out even.
use Rattle.std.specs.Prelude.{ℕ, ◌+◌, ◌-◌, ◌*◌, ◌/◌, ◌^◌, ℤ, pos, negsuc, ◌-ℤ◌, ◌*ℤ◌, unsigned_abs, nat_eq, nat_lt, if◌then◌else◌}
use Rattle.std.specs.Int.{int_min}
use Rattle.integer_algebra.specs.Sums.{none}
use Rattle.integer_algebra.specs.Sizes.{amount}
use Rattle.frac_scaled.specs.Enclosures.{Enclosure, sum_of, multiple, divided}
use Rattle.mat_int.specs.Enclosures.{gram_sum}
use Rattle.qp_model.specs.problem.Design.{Design, entries, rows}
use Rattle.qp_model.specs.form.Quantities.{greatest, input_floor}
use Rattle.qp_model.specs.problem.Runs as runs
use Rattle.qp_model.specs.problem.Runs.{counts, bound_at}
use Rattle.qp_model.specs.form.FineForm.{counted_row, fine_cost, fine_limit, own_weight}
use Rattle.qp_model.specs.form.Form.{Form}

-- ---- whole numbers
-- z, over `unit`
abbrev pub whole : (unit : ℕ) → ℤ → Enclosure
whole unit z = record { mid = pos unit *ℤ z; rad = pos 0 }

-- those of a state or of a plan
abbrev pub wholes_over : (unit : ℕ) → (ℕ → ℤ) → ℕ → Enclosure
wholes_over unit x i = whole unit (x i)

-- what products are over
abbrev pub product_unit : (unit den : ℕ) → ℕ
product_unit unit den = unit * unit / den

-- ---- the cost rows
-- what a counted row has of each entry of the plan, then of each state, and then its target
abbrev pub scaled_costs : (unit : ℕ) → Design → ℕ → ℕ → Enclosure
scaled_costs unit d c j =
    if nat_lt j (entries d) then fine_cost d (wholes_over unit none) (wholes_over unit (runs.unit j)) c
    else if nat_lt j (entries d + d.states) then fine_cost d (wholes_over unit (runs.unit (j - entries d))) (wholes_over unit none) c
    else whole unit (counted_row d c).target

-- the products of two of these columns, over all counted rows with their weights, rounded once
abbrev pub scaled_products : (unit den : ℕ) → Design → ℕ → ℕ → Enclosure
scaled_products unit den d j l = divided (gram_sum (counts d) (λ c. (counted_row d c).weight) (scaled_costs unit d) j l) den

-- the numbers of the condensed cost, times cost_denominator * row_denominator^2
abbrev pub scaled_hessian : (unit den : ℕ) → Design → ℕ → ℕ → Enclosure
scaled_hessian unit den d i j = multiple (pos 2) (sum_of (scaled_products unit den d i j) (whole (product_unit unit den) (own_weight d i j)))

abbrev pub scaled_linear : (unit den : ℕ) → Design → ℕ → ℕ → Enclosure
scaled_linear unit den d j i = multiple (pos 2) (scaled_products unit den d j (entries d + i))

abbrev pub scaled_constant : (unit den : ℕ) → Design → ℕ → Enclosure
scaled_constant unit den d j = multiple (negsuc 1) (scaled_products unit den d j (entries d + d.states))

-- ---- the limit rows: what row i has of entry j of the plan, and of state j
abbrev pub scaled_by_plan : (unit : ℕ) → Design → ℕ → ℕ → Enclosure
scaled_by_plan unit d i j = fine_limit d (wholes_over unit none) (wholes_over unit (runs.unit j)) i

abbrev pub scaled_by_state : (unit : ℕ) → Design → ℕ → ℕ → Enclosure
scaled_by_state unit d i j = fine_limit d (wholes_over unit (runs.unit j)) (wholes_over unit none) i

-- ---- the form
-- the hessian's radii in row i, and the greatest of these
abbrev pub scaled_row_radius : (unit den : ℕ) → Design → ℕ → ℕ
scaled_row_radius unit den d i = amount (entries d) (λ j. unsigned_abs (scaled_hessian unit den d i j).rad)

abbrev pub scaled_radius : (unit den : ℕ) → Design → ℕ
scaled_radius unit den d = greatest (entries d) (scaled_row_radius unit den d)

abbrev pub scaled_form : (unit den : ℕ) → Design → Form
scaled_form unit den d = record {
  entries = entries d;
  states = d.states;
  rows = rows d;
  numbers = record {
    hessian = λ i j. (scaled_hessian unit den d i j).mid;
    linear = λ j i. (scaled_linear unit den d j i).mid;
    constant = λ j. (scaled_constant unit den d j).mid;
    by_plan = λ i j. (scaled_by_plan unit d i j).mid;
    by_state = λ i j. (scaled_by_state unit d i j).mid;
    bound = λ i. pos unit *ℤ bound_at d i;
  };
  hessian_radius = λ i j. unsigned_abs (scaled_hessian unit den d i j).rad;
  linear_radius = λ j i. unsigned_abs (scaled_linear unit den d j i).rad;
  constant_radius = λ j. unsigned_abs (scaled_constant unit den d j).rad;
  plan_radius = λ i j. unsigned_abs (scaled_by_plan unit d i j).rad;
  state_radius = λ i j. unsigned_abs (scaled_by_state unit d i j).rad;
  hessian_scale = d.cost_denominator * d.row_denominator ^ 2 * product_unit unit den;
  rows_scale = d.limit_denominator * unit;
  matrix_factor = pos d.limit_denominator;
  row_factor = pos (d.cost_denominator * d.row_denominator ^ 2 * (unit / den));
  floor = int_min (pos (2 * d.limit_denominator * d.row_denominator ^ 2 * product_unit unit den * input_floor d) -ℤ pos (d.limit_denominator * scaled_radius unit den d))
      (pos (2 ^ 126));
  spread = if nat_eq den 1 then 1 else 2;
}

-- ---- the two classes
-- what the whole numbers of the exact class are over: the plant's denominator to the power of the stages
abbrev pub exact_unit : Design → ℕ
exact_unit d = d.plant_denominator ^ d.stages
