-- The condensed form as it is held: numbers that may be rounded, and how far each may be from the exact one.
use Rattle.std.specs.Prelude.{◌≡◌, ◌⊎◌, ℕ, ◌+◌, ◌*◌, ◌^◌, ◌<◌, ◌≤◌, min, Bool, true, false, ℤ, pos, ◌-ℤ◌, ◌*ℤ◌, unsigned_abs}
use Rattle.integer_algebra.specs.Bounds.{IsWithin}
use Rattle.integer_algebra.specs.Sizes.{amount}
use Rattle.qp_model.specs.problem.Design.{Design, entries, rows}
use Rattle.qp_model.specs.form.Condensed.{Condensed}
use Rattle.qp_model.specs.form.Condensing.{condensed_of}
use Rattle.qp_model.specs.problem.Parts.{IsDesign, design_of}
use Rattle.qp_model.specs.form.Quantities.{input_floor}
use Rattle.qp_model.specs.declared.design_parts.DesignParts.{DesignParts}

-- The numbers are midpoints; a radius is over what its number is over, and the bounds of the rows have none. The hessian, the linear part and the
-- constant are over hessian_scale, the rows and their bounds over rows_scale. Gains are solved with the hessian times matrix_factor; a row times
-- row_factor is over what that matrix is over. The floor is what the matrix bends each list up by at least. `spread` is what the square of a sum of
-- two errors, the rounding's and the radii's, is at most times the square of the first: 1 where there are no radii, and else 2.
pub record Form : Type 0 where
  pub entries : ℕ
  pub states : ℕ
  pub rows : ℕ
  pub numbers : Condensed
  pub hessian_radius : ℕ → ℕ → ℕ
  pub linear_radius : ℕ → ℕ → ℕ
  pub constant_radius : ℕ → ℕ
  pub plan_radius : ℕ → ℕ → ℕ
  pub state_radius : ℕ → ℕ → ℕ
  pub hessian_scale : ℕ
  pub rows_scale : ℕ
  pub matrix_factor : ℤ
  pub row_factor : ℤ
  pub floor : ℤ
  pub spread : ℕ

-- 1 for exact numbers, 2 for numbers with radii
abbrev pub spread_of : (fine : Bool) → ℕ
spread_of true = 2
spread_of false = 1

-- ---- of a design
-- what the exact hessian, the exact linear part and the exact constant are over, and what the exact rows and their bounds are over
abbrev pub hessian_scale : Design → ℕ
hessian_scale d = d.cost_denominator * (d.row_denominator * d.plant_denominator ^ d.stages) ^ 2

abbrev pub rows_scale : Design → ℕ
rows_scale d = d.limit_denominator * d.plant_denominator ^ d.stages

-- no radius
abbrev pub no_radii : ℕ → ℕ → ℕ
no_radii i j = 0

-- the exact numbers
abbrev pub exact_form : Design → Form
exact_form d = record {
  entries = entries d;
  states = d.states;
  rows = rows d;
  numbers = condensed_of d;
  hessian_radius = no_radii;
  linear_radius = no_radii;
  constant_radius = λ j. 0;
  plan_radius = no_radii;
  state_radius = no_radii;
  hessian_scale = hessian_scale d;
  rows_scale = rows_scale d;
  matrix_factor = pos d.limit_denominator;
  row_factor = pos (d.cost_denominator * d.row_denominator ^ 2 * d.plant_denominator ^ d.stages);
  floor = pos (min (2 * d.limit_denominator * (d.row_denominator * d.plant_denominator ^ d.stages) ^ 2 * input_floor d) (2 ^ 126));
  spread = 1;
}

-- ---- radii, added up
-- the greatest absolute value that the exact number can have, over what the midpoint is over
abbrev pub farthest : ℤ → ℕ → ℕ
farthest mid radius = unsigned_abs mid + radius

-- of row i
abbrev pub hessian_radii : Form → ℕ → ℕ
hessian_radii h i = amount h.entries (h.hessian_radius i)

abbrev pub linear_radii : Form → ℕ → ℕ
linear_radii h j = amount h.states (h.linear_radius j)

abbrev pub plan_radii : Form → ℕ → ℕ
plan_radii h i = amount h.entries (h.plan_radius i)

abbrev pub state_radii : Form → ℕ → ℕ
state_radii h i = amount h.states (h.state_radius i)

-- of column j of the rows
abbrev pub column_radii : Form → ℕ → ℕ
column_radii h j = amount h.rows (λ i. h.plan_radius i j)

-- ---- what it has of a design
-- no radius: the numbers are exact
pub record HasNoRadii (h : Form) : Type 0 where
  pub hessian : (i j : ℕ) → i < h.entries → j < h.entries → h.hessian_radius i j ≡ 0
  pub linear : (j i : ℕ) → j < h.entries → i < h.states → h.linear_radius j i ≡ 0
  pub constant : (j : ℕ) → j < h.entries → h.constant_radius j ≡ 0
  pub plan : (i j : ℕ) → i < h.rows → j < h.entries → h.plan_radius i j ≡ 0
  pub state : (i j : ℕ) → i < h.rows → j < h.states → h.state_radius i j ≡ 0

-- numbers over 2^40, whose hessian's radii take at most half of what the input weights bend it up by
pub record IsFine (d : Design) (h : Form) : Type 0 where
  pub hessian_scale : h.hessian_scale ≡ d.cost_denominator * d.row_denominator ^ 2 * 2 ^ 40
  pub rows_scale : h.rows_scale ≡ d.limit_denominator * 2 ^ 40
  pub narrow : (i : ℕ) → i < h.entries → hessian_radii h i ≤ d.row_denominator ^ 2 * 2 ^ 40 * input_floor d

-- each exact number lies within the radius of its midpoint; over another scale, so both are brought to the product of the two
pub record EnclosesDesign (d : Design) (h : Form) : Type 0 where
  pub entry_count : h.entries ≡ entries d
  pub state_count : h.states ≡ d.states
  pub row_count : h.rows ≡ rows d
  pub symmetric : (i j : ℕ) → i < entries d → j < entries d → h.numbers.hessian i j ≡ h.numbers.hessian j i
  pub hessian : (i j : ℕ) → i < entries d → j < entries d → IsWithin (pos (hessian_scale d * h.hessian_radius i j))
      (pos h.hessian_scale *ℤ (condensed_of d).hessian i j -ℤ pos (hessian_scale d) *ℤ h.numbers.hessian i j)
  pub linear : (j i : ℕ) → j < entries d → i < d.states → IsWithin (pos (hessian_scale d * h.linear_radius j i))
      (pos h.hessian_scale *ℤ (condensed_of d).linear j i -ℤ pos (hessian_scale d) *ℤ h.numbers.linear j i)
  pub constant : (j : ℕ) → j < entries d → IsWithin (pos (hessian_scale d * h.constant_radius j))
      (pos h.hessian_scale *ℤ (condensed_of d).constant j -ℤ pos (hessian_scale d) *ℤ h.numbers.constant j)
  pub plan : (i j : ℕ) → i < rows d → j < entries d → IsWithin (pos (rows_scale d * h.plan_radius i j))
      (pos h.rows_scale *ℤ (condensed_of d).by_plan i j -ℤ pos (rows_scale d) *ℤ h.numbers.by_plan i j)
  pub state : (i j : ℕ) → i < rows d → j < d.states → IsWithin (pos (rows_scale d * h.state_radius i j))
      (pos h.rows_scale *ℤ (condensed_of d).by_state i j -ℤ pos (rows_scale d) *ℤ h.numbers.by_state i j)
  pub bound : (i : ℕ) → i < rows d → pos h.rows_scale *ℤ (condensed_of d).bound i ≡ pos (rows_scale d) *ℤ h.numbers.bound i

-- a form that a controller of the design may be made of
pub record IsFormFor (d : Design) (h : Form) : Type 0 where
  pub encloses : EnclosesDesign d h
  pub hessian_some : 1 ≤ h.hessian_scale
  pub rows_some : 1 ≤ h.rows_scale
  pub matrix_factor : h.matrix_factor ≡ pos d.limit_denominator
  pub row_factor : h.row_factor *ℤ pos h.rows_scale ≡ h.matrix_factor *ℤ pos h.hessian_scale
  pub class : (HasNoRadii h × (h.spread ≡ 1)) ⊎ (IsFine d h × (h.spread ≡ 2))

-- forms that agree number by number
pub record HaveSameNumbers (h k : Form) : Type 0 where
  pub entries : h.entries ≡ k.entries
  pub states : h.states ≡ k.states
  pub rows : h.rows ≡ k.rows
  pub hessian : (i j : ℕ) → i < k.entries → j < k.entries → h.numbers.hessian i j ≡ k.numbers.hessian i j
  pub linear : (j i : ℕ) → j < k.entries → i < k.states → h.numbers.linear j i ≡ k.numbers.linear j i
  pub constant : (j : ℕ) → j < k.entries → h.numbers.constant j ≡ k.numbers.constant j
  pub by_plan : (i j : ℕ) → i < k.rows → j < k.entries → h.numbers.by_plan i j ≡ k.numbers.by_plan i j
  pub by_state : (i j : ℕ) → i < k.rows → j < k.states → h.numbers.by_state i j ≡ k.numbers.by_state i j
  pub bound : (i : ℕ) → i < k.rows → h.numbers.bound i ≡ k.numbers.bound i
  pub hessian_radius : (i j : ℕ) → i < k.entries → j < k.entries → h.hessian_radius i j ≡ k.hessian_radius i j
  pub linear_radius : (j i : ℕ) → j < k.entries → i < k.states → h.linear_radius j i ≡ k.linear_radius j i
  pub constant_radius : (j : ℕ) → j < k.entries → h.constant_radius j ≡ k.constant_radius j
  pub plan_radius : (i j : ℕ) → i < k.rows → j < k.entries → h.plan_radius i j ≡ k.plan_radius i j
  pub state_radius : (i j : ℕ) → i < k.rows → j < k.states → h.state_radius i j ≡ k.state_radius i j
  pub hessian_scale : h.hessian_scale ≡ k.hessian_scale
  pub rows_scale : h.rows_scale ≡ k.rows_scale
  pub matrix_factor : h.matrix_factor ≡ k.matrix_factor
  pub row_factor : h.row_factor ≡ k.row_factor
  pub floor : h.floor ≡ k.floor
  pub spread : h.spread ≡ k.spread

-- the exact numbers of a design are a form that a controller may be made of
abbrev pub ExactFormLaw : Type 0
ExactFormLaw = (p : DesignParts) → IsDesign p → IsFormFor (design_of p) (exact_form (design_of p))
