-- The numbers that the real errors of a controller's steps are made of.
use Rattle.std.specs.Prelude.{◌≡◌, ℕ, ◌^◌, ◌<◌, ◌≤◌, ℤ, List, length, unsigned_abs}
use Rattle.mat_int.specs.Matrix.{Matrix}
use Rattle.qp_model.specs.problem.Design.{entries, rows}
use Rattle.qp_model.specs.problem.Parts.{design_of}
use Rattle.qp_model.specs.form.Class.{form_of}
use Rattle.qp_model.specs.form.Columns.{columns, column_bound, descent_size, solve_matrix, solve_column}
use Rattle.qp_model.specs.form.GoodSolution.{IsGood}
use Rattle.qp_model.specs.machine.Controller.{Numbers, HasShape}
use Rattle.qp_model.specs.bounds.Errors.{error_sums_of, error_size}
use Rattle.qp_model.specs.declared.design_parts.DesignParts.{DesignParts}
use Rattle.condensed_form.specs.Form.{IsFormOf}
use Rattle.condensed_form.specs.declared.condensed.Condensed.{Condensed}
use Rattle.step_error.specs.ErrorSums.{AreSums, sums_of}
use Rattle.step_error.specs.CarriedErrors.{run_sums_of}
use Rattle.step_error.specs.RunSums.{run_error_size}
use Rattle.step_error.specs.declared.sums.ErrorSums.{ErrorSums}
use Rattle.step_error.specs.Gains.{gain_at}

-- the numbers c are the form of the design p, and e are its sums for multipliers up to 2 r, whose quantity `error` is within its limit
pub record AreSumsOf (p : DesignParts) (r : ℕ) (c : Condensed) (e : ErrorSums) : Type 0 where
  pub form : IsFormOf p c
  pub bound : 1 ≤ r
  pub sums : sums_of e ≡ error_sums_of (design_of p) (form_of (design_of p)) r
  pub room : error_size (design_of p) (form_of (design_of p)) r ≤ 2 ^ 126

-- gains at f bits that solve the systems of the design's form: good solutions within their bounds, and the quantity `descent` is within its limit
pub record AreSolutionsOf (p : DesignParts) (f : ℕ) (p_mat : Matrix) (t : List ℤ) (w_mat : Matrix) : Type 0 where
  pub state_gains : HasShape p_mat (entries (design_of p)) (design_of p).states
  pub offsets : length t ≡ entries (design_of p)
  pub dual_gains : HasShape w_mat (entries (design_of p)) (rows (design_of p))
  pub good : (i : ℕ) → i < columns (form_of (design_of p)) →
      IsGood (form_of (design_of p)).entries (solve_matrix (form_of (design_of p))) f (solve_column (form_of (design_of p)) i) (gain_at p_mat t w_mat i)
  pub within : (i j : ℕ) → i < columns (form_of (design_of p)) → j < (form_of (design_of p)).entries →
      unsigned_abs (gain_at p_mat t w_mat i j) ≤ column_bound (form_of (design_of p)) f i
  pub room : descent_size (form_of (design_of p)) f ≤ 2 ^ 126

-- the form, its sums and the gains of one design
pub record IsMadeFor (p : DesignParts) (r : ℕ) (c : Condensed) (e : ErrorSums) (p_mat : Matrix) (t : List ℤ) (w_mat : Matrix) (f : ℕ) : Type 0 where
  pub sums : AreSumsOf p r c e
  pub gains : AreSolutionsOf p f p_mat t w_mat

-- of some design
pub record IsMade (c : Condensed) (e : ErrorSums) (p_mat : Matrix) (t : List ℤ) (w_mat : Matrix) (f : ℕ) : Type 0 where
  pub parts : DesignParts
  pub r : ℕ
  pub made : IsMadeFor parts r c e p_mat t w_mat f

-- the form, the sums of a run of n steps of the accelerated machine, whose rows have these step exponents, up to s, and the gains of one design
pub record IsRunMadeFor (p : DesignParts) (r : ℕ) (c : Condensed) (e : ErrorSums) (p_mat : Matrix) (t : List ℤ) (w_mat : Matrix)
    (f n s : ℕ) (exponents : List ℕ) : Type 0 where
  pub form : IsFormOf p c
  pub sums : sums_of e ≡ run_sums_of (design_of p) (form_of (design_of p)) r n s exponents
  pub given : AreSums e
  pub room : run_error_size (design_of p) (form_of (design_of p)) r n s exponents ≤ 2 ^ 126
  pub gains : AreSolutionsOf p f p_mat t w_mat

-- of some design
pub record IsRunMade (c : Condensed) (e : ErrorSums) (p_mat : Matrix) (t : List ℤ) (w_mat : Matrix) (f n s : ℕ) (exponents : List ℕ) : Type 0 where
  pub parts : DesignParts
  pub r : ℕ
  pub made : IsRunMadeFor parts r c e p_mat t w_mat f n s exponents

-- the numbers of a controller have these gains at f bits
pub record HasGains (k : Numbers) (f : ℕ) (p_mat : Matrix) (t : List ℤ) (w_mat : Matrix) : Type 0 where
  pub states : k.states ≡ p_mat.cols
  pub bits : k.fraction_bits ≡ f
  pub state_gains : k.state_gains ≡ p_mat
  pub offsets : k.offsets ≡ t
  pub dual_gains : k.dual_gains ≡ w_mat
