-- Gains as columns, by how much they miss the systems that they solve, and what that comes to.
use Rattle.std.specs.Prelude.{◌≡◌, ℕ, ◌+◌, ◌-◌, ◌*◌, ◌^◌, ◌<◌, ◌≤◌, Bool, Option, Some, None, IfSome, ℤ, pos, ◌-ℤ◌, ◌*ℤ◌, ◌≤ℤ◌, List, length, slice_index_or, unsigned_abs, nat_lt, ◌==◌, if◌then◌else◌}
use Rattle.integer_algebra.specs.Sums.{image, at}
use Rattle.integer_algebra.specs.Sizes.{amount}
use Rattle.integer_algebra.specs.Division.{ceil_div}
use Rattle.mat_int.specs.Enclosures.{AreEnclosures}
use Rattle.mat_int.specs.Matrix.{Matrix, entry_of}
use Rattle.qp_model.specs.form.Form.{Form, farthest}
use Rattle.qp_model.specs.form.Columns.{columns, column_bound, descent_size, solve_matrix, solve_column}
use Rattle.qp_model.specs.machine.Controller.{HasShape}
use Rattle.qp_model.specs.form.GoodSolution.{IsGood}
use Rattle.qp_model.specs.bounds.Errors.{ErrorSums}
use Rattle.qp_model.specs.form.Quantities.{greatest}
use Rattle.condensed_form.specs.Form.{HasShapes, IsFormOf, held}
use Rattle.condensed_form.specs.declared.condensed.Condensed.{Condensed}
use Rattle.step_error.specs.CarriedErrors.{mean_error}
use Rattle.step_error.specs.declared.real_gains.Means.{Means}

-- entry j of the gains for column i: those for the states, those for the constant, and those for the rows
abbrev pub gain_at : (p_mat : Matrix) (t : List ℤ) (w_mat : Matrix) → ℕ → ℕ → ℤ
gain_at p_mat t w_mat i j =
    if nat_lt i p_mat.cols then entry_of p_mat j i
    else if i == p_mat.cols then at t j
    else entry_of w_mat j (i - (p_mat.cols + 1))

-- by how much gains at f bits miss entry j of system i
abbrev pub missed : Form → ℕ → (gains : ℕ → ℕ → ℤ) → ℕ → ℕ → ℕ
missed h f gains i j = unsigned_abs (image h.entries (solve_matrix h) (gains i) j -ℤ pos (2 ^ f) *ℤ solve_column h i j)

-- of n columns from the first one
abbrev pub missed_by : Form → ℕ → (gains : ℕ → ℕ → ℤ) → (first n : ℕ) → ℕ → ℕ
missed_by h f gains first n j = amount n (λ i. missed h f gains (first + i) j)

-- what that comes to in entry j of the gradient, where states go up to `state` and multipliers up to `top`
abbrev pub missed_sum : Form → ℕ → (gains : ℕ → ℕ → ℤ) → (state top : ℕ) → ℕ → ℕ
missed_sum h f gains state top j =
    state * amount h.states (λ i. missed h f gains i j) + missed h f gains h.states j + top * amount h.rows (λ i. missed h f gains (h.states + 1 + i) j)

-- what the states, the constant and the multipliers come to
abbrev pub combined_of : Form → (state top : ℕ) → ℕ
combined_of h state top = h.states * state + 1 + h.rows * top

-- whether the sums stay within 2^126, whichever good solutions the gains are
abbrev pub has_room : Form → (combined : ℕ) → Bool
has_room h combined = nat_lt (greatest h.entries (λ j. unsigned_abs (solve_matrix h j j) * combined)) (2 ^ 126 + 1)

-- the error of entry j of the gradient
abbrev pub missed_gradient : Form → ℕ → (gains : ℕ → ℕ → ℤ) → (state top : ℕ) → ℕ → ℕ
missed_gradient h f gains state top j =
    ceil_div (missed_sum h f gains state top j) (unsigned_abs h.matrix_factor * h.hessian_scale)
    + ceil_div (amount h.entries (λ l. farthest (h.numbers.hessian j l) (h.hessian_radius j l))) h.hessian_scale

-- what rounding the means adds to it, where a machine takes means
abbrev pub mean_of : Form → Option Means → ℕ → ℕ
mean_of h None j = 0
mean_of h (Some m) j = mean_error h m.s m.exps.now j

-- the squares of these errors, each with a number added
abbrev pub missed_squares : Form → ℕ → (gains : ℕ → ℕ → ℤ) → (state top : ℕ) → (mean : ℕ → ℕ) → ℕ
missed_squares h f gains state top mean = amount h.entries (λ j. (missed_gradient h f gains state top j + mean j) ^ 2)

-- numbers of a condensed form whose sums fit
pub record HasSystems (c : Condensed) : Type 0 where
  pub shapes : HasShapes c (held c).entries (held c).states (held c).rows
  pub pair : AreEnclosures c.hess c.hess_rad
  pub sums : (j : ℕ) → j < (held c).entries → amount (held c).entries (λ l. farthest (entry_of c.hess j l) (unsigned_abs (entry_of c.hess_rad j l))) ≤ 2 ^ 126
  pub limit_den : pos 1 ≤ℤ c.limit_den
  pub weight_den : pos 1 ≤ℤ c.weight_den
  pub cost_row_den : pos 1 ≤ℤ c.cost_row_den
  pub power : pos 1 ≤ℤ c.power
  pub hess_den : pos 1 ≤ℤ c.hess_den
  pub few : (held c).states ≤ 6

-- gains that are good solutions at f bits of its systems, within their bounds, and reaches of states and multipliers
pub record AreSolved (c : Condensed) (p_mat : Matrix) (t : List ℤ) (w_mat : Matrix) (f state top : ℕ) : Type 0 where
  pub systems : HasSystems c
  pub bits : f ≤ 48
  pub state_gains : HasShape p_mat (held c).entries (held c).states
  pub offsets : length t ≡ (held c).entries
  pub dual_gains : HasShape w_mat (held c).entries (held c).rows
  pub good : (i : ℕ) → i < columns (held c) → IsGood (held c).entries (solve_matrix (held c)) f (solve_column (held c) i) (gain_at p_mat t w_mat i)
  pub within : (i j : ℕ) → i < columns (held c) → j < (held c).entries → unsigned_abs (gain_at p_mat t w_mat i j) ≤ column_bound (held c) f i
  pub room : descent_size (held c) f ≤ 2 ^ 126
  pub some : 1 ≤ top
  pub combined : combined_of (held c) state top ≤ 2 ^ 87

-- means of a machine with this form of a design: each of its rows has a step exponent, up to s
pub record AreMeans (c : Condensed) (m : Means) : Type 0 where
  pub form : IsFormOf m.parts.now c
  pub count : length m.exps.now ≡ (held c).rows
  pub exponents : (i : ℕ) → i < length m.exps.now → slice_index_or m.exps.now i 0 ≤ m.s
  pub exponent : m.s ≤ 40

abbrev pub HasMeans : Condensed → Option Means → Type 0
HasMeans c means = IfSome means (AreMeans c)

-- what the squares of the gradient's errors, each with a number added, cost, over 4^f, where they count so many times: where there is no room, as
-- the stated ones
abbrev pub missed_cost : Form → ℕ → (gains : ℕ → ℕ → ℤ) → (mean : ℕ → ℕ) → (weight times : ℕ) → ErrorSums → ℕ
missed_cost h f gains mean weight times e =
    if has_room h (combined_of h e.state e.top) then times * ceil_div (weight * missed_squares h f gains e.state e.top mean) (2 * e.rho) else e.first
