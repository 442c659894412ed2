-- What the parts of a controller are that is made of a design's condensed form and its chosen numbers.
use Rattle.std.specs.Prelude.{◌≡◌, ℕ, ◌+◌, ◌*◌, ◌^◌, ◌<◌, ◌≤◌, pos, List, length, All, replicate}
use Rattle.mat_int.specs.Matrix.{HasEntries}
use Rattle.qp_model.specs.form.Form.{Form}
use Rattle.qp_model.specs.form.Class.{form_of}
use Rattle.qp_model.specs.problem.Design.{Design, entries, rows}
use Rattle.qp_model.specs.problem.Limits.{text_version}
use Rattle.qp_model.specs.problem.Runs.{Holds}
use Rattle.qp_model.specs.form.Columns.{columns, column_bound, solve_matrix, solve_column}
use Rattle.qp_model.specs.form.GoodSolution.{IsGood}
use Rattle.qp_model.specs.machine.Controller.{Numbers}
use Rattle.qp_model.specs.bounds.Built.{HasSizesOf, HasRowsOf, gain_column}
use Rattle.overflow_check.specs.FastController.{fast_version, most_fast_steps}
use Rattle.overflow_check.specs.Machines.{greatest_for}
use Rattle.overflow_check.specs.Width.{IsWidth}
use Rattle.overflow_check.specs.declared.machine.Machine.{Machine}
use Rattle.overflow_check.specs.declared.machine.Machine.TheVariants.{Plain, Accelerated}
use Rattle.approx_inverse.specs.DescentSize.{EachWithin}
use Rattle.approx_inverse.specs.Inverse.{HasGainSizes, solution_of}
use Rattle.approx_inverse.specs.declared.inverse.Inverse.{Inverse}
use Rattle.controller_maker.specs.Widest.{rounded, listed}
use Rattle.controller_maker.specs.declared.rounding.Rows.{Rows}

-- ---- the rows
-- the condensed rows over 2^f, rounded to the nearest, and ties upward
pub record AreRowsOf (d : Design) (f : ℕ) (r : Rows) : Type 0 where
  pub plan : HasEntries (rows d) (entries d) (λ i j. rounded d f ((form_of d).numbers.by_plan i j)) r.g_mat
  pub state : HasEntries (rows d) d.states (λ i j. rounded d f ((form_of d).numbers.by_state i j)) r.e_mat
  pub bound : Holds r.bound.items (rows d) (λ i. rounded d f ((form_of d).numbers.bound i))

-- ---- the gains
-- each gain is the bound of its column
pub record AreBounds (h : Form) (f : ℕ) (v : Inverse) : Type 0 where
  pub sizes : HasGainSizes v h.entries h.states h.rows
  pub each : (i j : ℕ) → i < columns h → j < h.entries → solution_of v i j ≡ pos (column_bound h f i)

-- ---- by the machine
-- the version of a design's controller
abbrev pub version_for : Machine → Design → ℕ
version_for Plain d = d.version
version_for Accelerated d = fast_version

-- the lists of multipliers that it holds
abbrev pub lists_for : Machine → ℕ
lists_for Plain = 1
lists_for Accelerated = 3

abbrev pub most_steps_for : Machine → ℕ
most_steps_for Plain = 2 ^ 22
most_steps_for Accelerated = most_fast_steps

-- ---- the whole
-- a step exponent for each row, none above s, and all of them s in version 1
pub record HasExponentsFor (m : Machine) (d : Design) (s : ℕ) (es : List ℕ) : Type 0 where
  pub long : length es ≡ rows d
  pub high : All (λ e. e ≤ s) es
  pub first : version_for m d ≡ text_version → es ≡ replicate (rows d) s

abbrev pub HasExponents : Design → ℕ → List ℕ → Type 0
HasExponents = HasExponentsFor Plain

abbrev pub HasFastExponents : Design → ℕ → List ℕ → Type 0
HasFastExponents = HasExponentsFor Accelerated

-- all of a controller but its gains and its width: of a design, with R, the step exponent s and those of the rows, k steps and f bits
pub record IsFrame (m : Machine) (d : Design) (r s : ℕ) (es : List ℕ) (k f : ℕ) (c : Numbers) : Type 0 where
  pub version : c.version ≡ version_for m d
  pub states : c.states ≡ d.states
  pub inputs : c.inputs ≡ d.inputs
  pub stages : c.stages ≡ d.stages
  pub limits : c.rows ≡ rows d
  pub fraction_bits : c.fraction_bits ≡ f
  pub grid_bits : c.grid_bits ≡ d.grid
  pub step_exponent : c.step_exponent ≡ s
  pub steps : c.steps ≡ k
  pub clamp : c.clamp ≡ pos (2 * r * 2 ^ (f + s))
  pub words : c.words ≡ d.states + lists_for m * rows d + 2 * entries d
  pub exponents : c.exponents ≡ es
  pub low : c.low ≡ listed d.states d.low
  pub high : c.high ≡ listed d.states d.high
  pub plan_rows : HasEntries (rows d) (entries d) (λ i j. rounded d f ((form_of d).numbers.by_plan i j)) c.plan_rows
  pub state_rows : HasEntries (rows d) d.states (λ i j. rounded d f ((form_of d).numbers.by_state i j)) c.state_rows
  pub bounds : Holds c.bounds (rows d) (λ i. rounded d f ((form_of d).numbers.bound i))

-- the gains are these
pub record AreGains (v : Inverse) (c : Numbers) : Type 0 where
  pub state_gains : c.state_gains ≡ v.p_mat
  pub offsets : c.offsets ≡ v.t.items
  pub dual_gains : c.dual_gains ≡ v.w_mat

-- a controller of a design with R, the step exponent s and those of the rows, k steps and f bits: its gains are good solutions within their bounds, its rows the
-- condensed rows, and its width is the least that its absolute sums let pass
pub record IsAssembledFor (m : Machine) (d : Design) (r s : ℕ) (es : List ℕ) (k f : ℕ) (c : Numbers) : Type 0 where
  pub version : c.version ≡ version_for m d
  pub step_exponent : c.step_exponent ≡ s
  pub exponents : c.exponents ≡ es
  pub sizes : HasSizesOf d c
  pub rows : HasRowsOf (form_of d) c
  pub gains : (i : ℕ) → i < columns (form_of d) → IsGood (form_of d).entries (solve_matrix (form_of d)) c.fraction_bits (solve_column (form_of d) i) (gain_column c i)
  pub within : (i : ℕ) → i < columns (form_of d) → EachWithin (form_of d).entries (column_bound (form_of d) c.fraction_bits i) (gain_column c i)
  pub clamp : c.clamp ≡ pos (2 * r * 2 ^ (f + s))
  pub steps : c.steps ≡ k
  pub fraction_bits : c.fraction_bits ≡ f
  pub width : IsWidth (greatest_for m c) c.width

abbrev pub IsAssembled : Design → (r s : ℕ) → List ℕ → (k f : ℕ) → Numbers → Type 0
IsAssembled = IsAssembledFor Plain

abbrev pub IsFastAssembled : Design → (r s : ℕ) → List ℕ → (k f : ℕ) → Numbers → Type 0
IsFastAssembled = IsAssembledFor Accelerated
