-- The numbers of a form's cost as enclosures, row by row.
use Rattle.std.specs.Prelude.{◌≡◌, ℕ, ◌^◌, ◌<◌, ◌≤◌, max, List, length, get_or, ℤ, unsigned_abs}
use Rattle.frac_scaled.specs.Enclosures.{Enclosure, sum_of}
use Rattle.mat_int.specs.Enclosures.{combined, combination_magnitude}
use Rattle.mat_int.specs.Matrix.{Matrix, entry_of}
use Rattle.enclosure.specs.Values.{pair}
use Rattle.qp_model.specs.problem.Design.{Design, entries}
use Rattle.qp_model.specs.form.Form.{Form}
use Rattle.qp_model.specs.form.Quantities.{greatest}
use Rattle.qp_model.specs.bounds.Excess.{brought, hessian_at, linear_at, constant_at, reach, number_size, sum_reach}
use Rattle.scaled_run.specs.Lists.{HoldsEnclosures}
use Rattle.plan_excess.specs.declared.rows.Row.{Row}

-- row j of a matrix within that of the radii, both over the scale, and what its numbers reach
abbrev pub line_at : (scale : ℕ) → (mids rads : Matrix) → ℕ → ℕ → Enclosure
line_at scale mids rads j i = brought scale (entry_of mids j i) (unsigned_abs (entry_of rads j i))

abbrev pub line_size : (scale : ℕ) → (mids rads : Matrix) → ℕ → ℕ
line_size scale mids rads j = greatest mids.cols (λ i. reach (line_at scale mids rads j i))

-- row j: what the plan's entries, the state's coordinates and 1 are times in entry j of the gradient
pub record IsGradientRow (d : Design) (h : Form) (j : ℕ) (row : Row) : Type 0 where
  pub plan : HoldsEnclosures row.plan.items (entries d) (hessian_at h j)
  pub state : HoldsEnclosures row.state.items d.states (linear_at h j)
  pub constant : pair row.constant ≡ constant_at h j

-- the first n rows
pub record AreGradientRows (d : Design) (h : Form) (n : ℕ) (rows : List Row) : Type 0 where
  pub long : length rows ≡ n
  pub is : (j : ℕ) (row : Row) → j < n → IsGradientRow d h j (get_or rows j row)

-- the numbers of the first n rows are within the limit
abbrev pub AreRowsNear : Design → Form → ℕ → Type 0
AreRowsNear d h n = greatest n (number_size d h) ≤ 2 ^ 126

-- ---- by functions: what n entries of a plan u over q and m coordinates of a state xi over g have of these numbers, and a constant beside
abbrev pub gradient_by : (n : ℕ) → (x : ℕ → Enclosure) → (m : ℕ) → (y : ℕ → Enclosure) → (z : Enclosure) →
    (xi : ℕ → ℤ) → (g : ℕ) → (u : ℕ → ℤ) → (q : ℕ) → Enclosure
gradient_by n x m y z xi g u q = sum_of (sum_of (combined n u x q) (combined m xi y g)) z

abbrev pub gradient_size_by : (n : ℕ) → (x : ℕ → Enclosure) → (m : ℕ) → (y : ℕ → Enclosure) → (z : Enclosure) →
    (xi : ℕ → ℤ) → (g : ℕ) → (u : ℕ → ℤ) → (q : ℕ) → ℕ
gradient_size_by n x m y z xi g u q =
    max (max (unsigned_abs (combination_magnitude n u x)) (unsigned_abs (combination_magnitude m xi y)))
    (max (sum_reach (combined n u x q) (combined m xi y g)) (sum_reach (sum_of (combined n u x q) (combined m xi y g)) z))
