-- The condensed form of a design in enclosures: midpoints and radii over 2^40, for designs whose exact numbers are too long.
use Rattle.std.specs.Prelude.{ℕ, zero, suc, ◌+◌, ◌-◌, ◌*◌, ◌/◌, ◌%◌, ◌^◌, ℤ, pos, negsuc, ◌-ℤ◌, ◌*ℤ◌, unsigned_abs, nat_eq, nat_lt, if◌then◌else◌}
use Rattle.std.specs.Int.{int_min}
use Rattle.integer_algebra.specs.Sums.{none}
use Rattle.integer_algebra.specs.Sizes.{amount}
use Rattle.frac_scaled.specs.Enclosures.{Enclosure, exactly, sum_of, multiple}
use Rattle.mat_int.specs.Enclosures.{combined, weighted_gram}
use Rattle.qp_model.specs.problem.Design.{Design, CostRow, LimitRow, entries, rows}
use Rattle.qp_model.specs.form.Quantities.{greatest, input_floor}
use Rattle.qp_model.specs.problem.Runs.{unit, counts, bound_at}
use Rattle.qp_model.specs.form.Form.{Form, EnclosesDesign}
use Rattle.qp_model.specs.problem.Sound.{IsSound}

-- ---- a run of the plant
-- the first n numbers of f, and then those of g
abbrev pub followed : {A : Type 0} → ℕ → (f g : ℕ → A) → ℕ → A
followed n f g i = if nat_lt i n then f i else g (i - n)

-- the state at a stage, from the state x under the plan v, rounded at each stage
abbrev pub fine_run : Design → (x v : ℕ → Enclosure) → ℕ → ℕ → Enclosure
fine_run d x v zero i = x i
fine_run d x v (suc k) i =
    combined (d.states + d.inputs) (followed d.states (d.plant_a i) (d.plant_b i))
    (followed d.states (fine_run d x v k) (λ l. v (k * d.inputs + l))) d.plant_denominator

-- whole numbers: those of a state or of a plan
abbrev pub wholes : (ℕ → ℤ) → ℕ → Enclosure
wholes x i = exactly (x i)

-- ---- the cost rows
-- the stage at which counted cost row c counts
abbrev pub counted_stage : Design → ℕ → ℕ
counted_stage d c = if nat_lt c (d.stages * d.stage_costs) then suc (c / d.stage_costs) else d.stages

-- and the row itself
abbrev pub counted_row : Design → ℕ → CostRow
counted_row d c = if nat_lt c (d.stages * d.stage_costs) then d.stage_cost (c % d.stage_costs) else d.final_cost (c - d.stages * d.stage_costs)

-- what it has of a run
abbrev pub fine_cost : Design → (x v : ℕ → Enclosure) → ℕ → Enclosure
fine_cost d x v c = combined d.states (counted_row d c).coefficient (fine_run d x v (counted_stage d c)) 1

-- what it has of each entry of the plan, then of each state, and then its target
abbrev pub fine_costs : Design → ℕ → ℕ → Enclosure
fine_costs d c j =
    if nat_lt j (entries d) then fine_cost d (wholes none) (wholes (unit j)) c
    else if nat_lt j (entries d + d.states) then fine_cost d (wholes (unit (j - entries d))) (wholes none) c
    else exactly (counted_row d c).target

-- the products of two of these columns, over all counted rows with their weights
abbrev pub fine_products : Design → ℕ → ℕ → Enclosure
fine_products d j l = weighted_gram (counts d) (λ c. (counted_row d c).weight) (fine_costs d) j l

-- what the inputs' own costs add to those of the plan's entries
abbrev pub own_weight : Design → ℕ → ℕ → ℤ
own_weight d i j = if nat_eq i j then d.input_weight (i % d.inputs) *ℤ pos (d.row_denominator ^ 2) else pos 0

-- the numbers of the condensed cost, times cost_denominator * row_denominator^2
abbrev pub fine_hessian : Design → ℕ → ℕ → Enclosure
fine_hessian d i j = multiple (pos 2) (sum_of (fine_products d i j) (exactly (own_weight d i j)))

abbrev pub fine_linear : Design → ℕ → ℕ → Enclosure
fine_linear d j i = multiple (pos 2) (fine_products d j (entries d + i))

abbrev pub fine_constant : Design → ℕ → Enclosure
fine_constant d j = multiple (negsuc 1) (fine_products d j (entries d + d.states))

-- ---- the limit rows
-- what a row has of the state at a stage
abbrev pub fine_final_limit : Design → (x v : ℕ → Enclosure) → ℕ → LimitRow → Enclosure
fine_final_limit d x v k r = combined d.states r.of_state (fine_run d x v k) 1

-- and of the input there
abbrev pub fine_stage_limit : Design → (x v : ℕ → Enclosure) → ℕ → LimitRow → Enclosure
fine_stage_limit d x v k r = sum_of (fine_final_limit d x v k r) (combined d.inputs r.of_input (λ l. v (k * d.inputs + l)) 1)

-- what row i of all rows has of a run, times limit_denominator
abbrev pub fine_limit : Design → (x v : ℕ → Enclosure) → ℕ → Enclosure
fine_limit d x v i =
    if nat_lt i (d.stages * d.stage_limits) then fine_stage_limit d x v (i / d.stage_limits) (d.stage_limit (i % d.stage_limits))
    else fine_final_limit d x v d.stages (d.final_limit (i - d.stages * d.stage_limits))

-- the numbers of the condensed limits: what row i has of entry j of the plan, and of state j
abbrev pub fine_by_plan : Design → ℕ → ℕ → Enclosure
fine_by_plan d i j = fine_limit d (wholes none) (wholes (unit j)) i

abbrev pub fine_by_state : Design → ℕ → ℕ → Enclosure
fine_by_state d i j = fine_limit d (wholes (unit j)) (wholes none) i

-- ---- the form
-- the hessian's radii in row i
abbrev pub hessian_row_radius : Design → ℕ → ℕ
hessian_row_radius d i = amount (entries d) (λ j. unsigned_abs (fine_hessian d i j).rad)

-- the greatest of these
abbrev pub hessian_radius : Design → ℕ
hessian_radius d = greatest (entries d) (hessian_row_radius d)

abbrev pub fine_form : Design → Form
fine_form d = record {
  entries = entries d;
  states = d.states;
  rows = rows d;
  numbers = record {
    hessian = λ i j. (fine_hessian d i j).mid;
    linear = λ j i. (fine_linear d j i).mid;
    constant = λ j. (fine_constant d j).mid;
    by_plan = λ i j. (fine_by_plan d i j).mid;
    by_state = λ i j. (fine_by_state d i j).mid;
    bound = λ i. pos (2 ^ 40) *ℤ bound_at d i;
  };
  hessian_radius = λ i j. unsigned_abs (fine_hessian d i j).rad;
  linear_radius = λ j i. unsigned_abs (fine_linear d j i).rad;
  constant_radius = λ j. unsigned_abs (fine_constant d j).rad;
  plan_radius = λ i j. unsigned_abs (fine_by_plan d i j).rad;
  state_radius = λ i j. unsigned_abs (fine_by_state d i j).rad;
  hessian_scale = d.cost_denominator * d.row_denominator ^ 2 * 2 ^ 40;
  rows_scale = d.limit_denominator * 2 ^ 40;
  matrix_factor = pos d.limit_denominator;
  row_factor = pos (d.cost_denominator * d.row_denominator ^ 2);
  floor = int_min (pos (2 * d.limit_denominator * d.row_denominator ^ 2 * 2 ^ 40 * input_floor d) -ℤ pos (d.limit_denominator * hessian_radius d)) (pos (2 ^ 126));
  spread = 2;
}

-- each exact number of the design lies within the radius of its midpoint
abbrev pub FineLaw : Type 0
FineLaw = (d : Design) (rho : ℕ) → IsSound d rho → EnclosesDesign d (fine_form d)
