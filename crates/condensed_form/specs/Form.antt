-- The condensed form of a design, as its numbers.
use Rattle.std.specs.Prelude.{◌≡◌, ℕ, ◌+◌, ◌*◌, ◌^◌, ◌<◌, ◌≤◌, Bool, ℤ, pos, ◌*ℤ◌, ◌≤ℤ◌, length, unsigned_abs}
use Rattle.integer_algebra.specs.Sums.{at}
use Rattle.integer_algebra.specs.Sizes.{amount}
use Rattle.mat_int.specs.Matrix.{entry_of}
use Rattle.qp_model.specs.declared.design_parts.DesignParts.{DesignParts}
use Rattle.qp_model.specs.problem.Design.{Design, entries, rows}
use Rattle.qp_model.specs.problem.Parts.{design_of, IsDesign}
use Rattle.qp_model.specs.machine.Controller.{HasShape}
use Rattle.qp_model.specs.form.Condensed as form
use Rattle.qp_model.specs.form.Form.{Form, farthest, spread_of, HaveSameNumbers, IsFormFor}
use Rattle.qp_model.specs.form.FineSizes.{is_fine}
use Rattle.qp_model.specs.form.Class.{form_in, hessian_in, rows_in, cost_row_in}
use Rattle.qp_model.specs.form.Columns.{solve_matrix}
use Rattle.qp_model.specs.form.Convex.{IsConvex}
use Rattle.condensed_form.specs.declared.condensed.Condensed.{Condensed}

-- the condensed form that the numbers are
abbrev pub form_numbers : Condensed → form.Condensed
form_numbers c = record {
  hessian = entry_of c.hess;
  linear = entry_of c.lin;
  constant = at c.off.items;
  by_plan = entry_of c.g;
  by_state = entry_of c.e;
  bound = at c.bound.items;
}

-- the numbers as a form that is held, with its sizes
abbrev pub held : Condensed → Form
held c = record {
  entries = length c.hess.rows;
  states = c.lin.cols;
  rows = length c.g.rows;
  numbers = form_numbers c;
  hessian_radius = λ i j. unsigned_abs (entry_of c.hess_rad i j);
  linear_radius = λ j i. unsigned_abs (entry_of c.lin_rad j i);
  constant_radius = λ j. unsigned_abs (at c.off_rad.items j);
  plan_radius = λ i j. unsigned_abs (entry_of c.g_rad i j);
  state_radius = λ i j. unsigned_abs (entry_of c.e_rad i j);
  hessian_scale = unsigned_abs c.hess_den;
  rows_scale = unsigned_abs c.row_den;
  matrix_factor = c.limit_den;
  row_factor = c.power *ℤ (c.cost_row_den *ℤ (c.cost_row_den *ℤ c.weight_den));
  floor = c.floor;
  spread = spread_of c.fine;
}

-- ---- sums of a form's numbers, each at its farthest
-- of row i of the hessian
abbrev pub hessian_row_sum : Form → ℕ → ℕ
hessian_row_sum h i = amount h.entries (λ j. farthest (h.numbers.hessian i j) (h.hessian_radius i j))

-- all numbers of its cost
abbrev pub cost_sum : Form → ℕ
cost_sum h =
    amount h.entries (hessian_row_sum h)
    + amount h.entries (λ j. amount h.states (λ i. farthest (h.numbers.linear j i) (h.linear_radius j i)))
    + amount h.entries (λ j. farthest (h.numbers.constant j) (h.constant_radius j))

-- the squares of all numbers of its limits
abbrev pub limit_sum : Form → ℕ
limit_sum h =
    amount h.rows (λ i. amount h.entries (λ j. farthest (h.numbers.by_plan i j) (h.plan_radius i j) ^ 2))
    + amount h.rows (λ i. amount h.states (λ j. farthest (h.numbers.by_state i j) (h.state_radius i j) ^ 2))
    + amount h.rows (λ i. unsigned_abs (h.numbers.bound i) ^ 2)

-- the products of column j of the plan's rows with all of its columns
abbrev pub column_products : Form → ℕ → ℕ
column_products h j = amount h.entries (λ l. amount h.rows (λ i.
    farthest (h.numbers.by_plan i j) (h.plan_radius i j) * farthest (h.numbers.by_plan i l) (h.plan_radius i l)))

-- ---- what the numbers are
-- nu plan entries, n states and m rows
pub record HasShapes (c : Condensed) (entries states rows : ℕ) : Type 0 where
  pub hess : HasShape c.hess entries entries
  pub hess_rad : HasShape c.hess_rad entries entries
  pub lin : HasShape c.lin entries states
  pub lin_rad : HasShape c.lin_rad entries states
  pub off : length c.off.items ≡ entries
  pub off_rad : length c.off_rad.items ≡ entries
  pub g : HasShape c.g rows entries
  pub g_rad : HasShape c.g_rad rows entries
  pub e : HasShape c.e rows states
  pub e_rad : HasShape c.e_rad rows states
  pub bound : length c.bound.items ≡ rows

-- no radius is negative
pub record HasRadii (c : Condensed) (entries states rows : ℕ) : Type 0 where
  pub hess : (i j : ℕ) → i < entries → j < entries → pos 0 ≤ℤ entry_of c.hess_rad i j
  pub lin : (j i : ℕ) → j < entries → i < states → pos 0 ≤ℤ entry_of c.lin_rad j i
  pub off : (j : ℕ) → j < entries → pos 0 ≤ℤ at c.off_rad.items j
  pub g : (i j : ℕ) → i < rows → j < entries → pos 0 ≤ℤ entry_of c.g_rad i j
  pub e : (i j : ℕ) → i < rows → j < states → pos 0 ≤ℤ entry_of c.e_rad i j

-- rho is the least input weight
pub record IsLeastInput (d : Design) (rho : ℤ) : Type 0 where
  pub below : (l : ℕ) → l < d.inputs → rho ≤ℤ d.input_weight l
  pub met : (l : ℕ) × ((l < d.inputs) × (rho ≡ d.input_weight l))

-- what the exact responses of the cost rows are over
abbrev pub response_scale : Design → ℕ
response_scale d = d.row_denominator * d.plant_denominator ^ d.stages

-- the denominators of the design, those of the form, which are positive, and the least input weight
pub record HasDenominators (d : Design) (c : Condensed) : Type 0 where
  pub weight_den : c.weight_den ≡ pos d.cost_denominator
  pub cost_row_den : c.cost_row_den ≡ pos d.row_denominator
  pub limit_den : c.limit_den ≡ pos d.limit_denominator
  pub power : pos 1 ≤ℤ c.power
  pub hess_den : pos 1 ≤ℤ c.hess_den
  pub row_den : pos 1 ≤ℤ c.row_den
  pub input_floor : IsLeastInput d c.input_floor

-- the two quantities, within their limit, bound the numbers of the cost and of the limits
pub record HasSums (fine : Bool) (d : Design) (c : Condensed) : Type 0 where
  pub cost_size : c.hess_size ≡ pos (hessian_in fine d)
  pub cost_room : hessian_in fine d ≤ 2 ^ 126
  pub limit_size : c.rows_size ≡ pos (rows_in fine d)
  pub limit_room : rows_in fine d ≤ 2 ^ 126
  pub cost : cost_sum (held c) ≤ hessian_in fine d
  pub cost_row : (i : ℕ) → i < entries d → hessian_row_sum (held c) i ≤ 2 * cost_row_in fine d
  pub limits : limit_sum (held c) ≤ rows_in fine d
  pub products : (j : ℕ) → j < entries d → column_products (held c) j ≤ rows_in fine d

-- the numbers are the condensed form of a design, exact or in enclosures
pub record IsFormIn (fine : Bool) (p : DesignParts) (c : Condensed) : Type 0 where
  pub design : IsDesign p
  pub class : c.fine ≡ fine
  pub shapes : HasShapes c (entries (design_of p)) (design_of p).states (rows (design_of p))
  pub radii : HasRadii c (entries (design_of p)) (design_of p).states (rows (design_of p))
  -- each number and each radius by its formula
  pub same : HaveSameNumbers (held c) (form_in fine (design_of p))
  -- the exact ones give residuals and costs of every plan at every state, and lie within the radii of these
  pub encloses : IsFormFor (design_of p) (form_in fine (design_of p))
  pub denominators : HasDenominators (design_of p) c
  pub convex : IsConvex (entries (design_of p)) (solve_matrix (held c)) c.floor
  pub sizes : HasSums fine (design_of p) c

-- in the design's own class
abbrev pub IsFormOf : DesignParts → Condensed → Type 0
IsFormOf p c = IsFormIn (is_fine (design_of p)) p c

-- of some design: what each call that takes such numbers asks
pub record IsForm (c : Condensed) : Type 0 where
  pub parts : DesignParts
  pub form : IsFormOf parts c

-- of some design, exact or in enclosures
pub record IsSomeForm (c : Condensed) : Type 0 where
  pub fine : Bool
  pub parts : DesignParts
  pub form : IsFormIn fine parts c
