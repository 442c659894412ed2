-- A controller that was made for a design.
use Rattle.std.specs.Prelude.{◌≡◌, ℕ, ◌+◌, ◌-◌, ◌*◌, ◌^◌, ◌<◌, ℤ, pos, ◌*ℤ◌, nat_lt, ◌==◌, if◌then◌else◌}
use Rattle.integer_algebra.specs.Sums.{at}
use Rattle.integer_algebra.specs.Division.{round_of}
use Rattle.mat_int.specs.Matrix.{entry_of}
use Rattle.qp_model.specs.problem.Design.{Design, rows}
use Rattle.qp_model.specs.form.Form.{Form}
use Rattle.qp_model.specs.form.Columns.{columns, solve_matrix, solve_column}
use Rattle.qp_model.specs.form.Curvature.{AreExponents}
use Rattle.qp_model.specs.form.GoodSolution.{IsGood}
use Rattle.qp_model.specs.machine.Controller.{Numbers}
use Rattle.qp_model.specs.machine.Machine.{exponent_of}

-- the gains of one system: column i of P, T, or a column of W
abbrev pub gain_column : Numbers → ℕ → ℕ → ℤ
gain_column c i j =
    if nat_lt i c.states then entry_of c.state_gains j i
    else if i == c.states then at c.offsets j
    else entry_of c.dual_gains j (i - (c.states + 1))

-- its sizes, its grid and its box are the design's
pub record HasSizesOf (d : Design) (c : Numbers) : Type 0 where
  pub states : c.states ≡ d.states
  pub inputs : c.inputs ≡ d.inputs
  pub stages : c.stages ≡ d.stages
  pub rows : c.rows ≡ rows d
  pub grid : c.grid_bits ≡ d.grid
  pub low : (i : ℕ) → i < d.states → at c.low i ≡ d.low i
  pub high : (i : ℕ) → i < d.states → at c.high i ≡ d.high i

-- its rows are the condensed rows times 2^fraction_bits, rounded to the nearest, and ties upward
pub record HasRowsOf (h : Form) (c : Numbers) : Type 0 where
  pub plan_rows : (i j : ℕ) → i < h.rows → j < h.entries →
      entry_of c.plan_rows i j ≡ round_of (pos (2 ^ c.fraction_bits) *ℤ h.numbers.by_plan i j) h.rows_scale
  pub state_rows : (i j : ℕ) → i < h.rows → j < h.states →
      entry_of c.state_rows i j ≡ round_of (pos (2 ^ c.fraction_bits) *ℤ h.numbers.by_state i j) h.rows_scale
  pub bounds : (i : ℕ) → i < h.rows →
      at c.bounds i ≡ round_of (pos (2 ^ c.fraction_bits) *ℤ h.numbers.bound i) h.rows_scale

-- it is made for the design by a form of it, with multipliers up to 2 r: its gains are good solutions, its rows the condensed rows, its exponents
-- curvature exponents
pub record IsDerivedFrom (d : Design) (h : Form) (r : ℕ) (c : Numbers) : Type 0 where
  pub sizes : HasSizesOf d c
  pub rows : HasRowsOf h c
  pub gains : (i : ℕ) → i < columns h → IsGood h.entries (solve_matrix h) c.fraction_bits (solve_column h i) (gain_column c i)
  pub exponents : AreExponents d (exponent_of c) c.step_exponent
  pub clamp : c.clamp ≡ pos (2 * r * 2 ^ (c.fraction_bits + c.step_exponent))
