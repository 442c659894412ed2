-- A controller as its numbers and lists, and what makes these a controller.
use Rattle.std.specs.Prelude.{◌≡◌, ℕ, ◌+◌, ◌*◌, ◌^◌, ◌<◌, ◌≤◌, ℤ, pos, ◌≤ℤ◌, List, length, replicate, All, FitsSigned}
use Rattle.std.specs.Int.{w128}
use Rattle.integer_algebra.specs.Sums.{at}
use Rattle.mat_int.specs.Matrix.{Matrix}
use Rattle.qp_model.specs.problem.Limits.{text_version, last_version, most_states, most_inputs, most_stages, most_rows}
use Rattle.qp_model.specs.problem.Range.{LiesIn, IsNumerator}
use Rattle.qp_model.specs.declared.controller_parts.ControllerParts.{ControllerParts}

-- The version of its text, and a controller's numbers and lists, by words. `ControllerParts` and the formulas have letters:
--   n, p, N, m: states, inputs a stage, stages and rows;    f, g, s, w: fraction_bits, grid_bits, step_exponent and width
--   exps: exponents, the step exponent of each row, of which step_exponent is the greatest that there may be
--   K: steps;    lo, hi: low and high, over 2^g
--   P, T, W (p_mat, t, w_mat): state_gains, offsets and dual_gains, over 2^f
--   G, E, b (g_mat, e_mat, bound): plan_rows, state_rows and bounds, over 2^f
pub record Numbers : Type 0 where
  pub version : ℕ
  pub states : ℕ
  pub inputs : ℕ
  pub stages : ℕ
  pub rows : ℕ
  pub fraction_bits : ℕ
  pub grid_bits : ℕ
  pub step_exponent : ℕ
  pub width : ℕ
  pub steps : ℕ
  pub clamp : ℤ
  pub words : ℕ
  pub exponents : List ℕ
  pub low : List ℤ
  pub high : List ℤ
  pub state_gains : Matrix
  pub offsets : List ℤ
  pub dual_gains : Matrix
  pub plan_rows : Matrix
  pub state_rows : Matrix
  pub bounds : List ℤ

abbrev pub numbers : ControllerParts → Numbers
numbers c = record {
  version = c.version;
  states = c.n;
  inputs = c.p;
  stages = c.stages;
  rows = c.m;
  fraction_bits = c.f;
  grid_bits = c.g;
  step_exponent = c.s;
  width = c.w;
  steps = c.steps;
  clamp = c.clamp;
  words = c.words;
  exponents = c.exps.items;
  low = c.lo.items;
  high = c.hi.items;
  state_gains = c.p_mat;
  offsets = c.t.items;
  dual_gains = c.w_mat;
  plan_rows = c.g_mat;
  state_rows = c.e_mat;
  bounds = c.bound.items;
}

-- nu, the number of plan entries
abbrev pub plan_length : Numbers → ℕ
plan_length c = c.inputs * c.stages

-- so many rows of so many numbers each
pub record HasShape (a : Matrix) (height breadth : ℕ) : Type 0 where
  pub rows : length a.rows ≡ height
  pub cols : a.cols ≡ breadth
  pub each : All (λ row. length row ≡ breadth) a.rows

-- the lists and matrices have the lengths that the sizes say
pub record IsShaped (c : Numbers) : Type 0 where
  pub exponents : length c.exponents ≡ c.rows
  pub low : length c.low ≡ c.states
  pub high : length c.high ≡ c.states
  pub state_gains : HasShape c.state_gains (plan_length c) c.states
  pub offsets : length c.offsets ≡ plan_length c
  pub dual_gains : HasShape c.dual_gains (plan_length c) c.rows
  pub plan_rows : HasShape c.plan_rows c.rows (plan_length c)
  pub state_rows : HasShape c.state_rows c.rows c.states
  pub bounds : length c.bounds ≡ c.rows

-- the shapes and ranges of a controller's numbers, but for the width
pub record IsSized (c : Numbers) : Type 0 where
  pub version : LiesIn text_version last_version c.version
  pub states : LiesIn 1 (most_states c.version) c.states
  pub inputs : LiesIn 1 (most_inputs c.version) c.inputs
  pub stages : LiesIn 1 (most_stages c.version) c.stages
  pub rows : LiesIn 1 (most_rows c.version) c.rows
  pub grid_bits : c.grid_bits ≤ 24
  pub fraction_bits : LiesIn c.grid_bits 48 c.fraction_bits
  pub step_exponent : c.step_exponent ≤ 40
  pub exponents : All (λ s. s ≤ c.step_exponent) c.exponents
  -- in the first version all rows have one exponent
  pub same_exponents : c.version ≡ text_version → c.exponents ≡ replicate c.rows c.step_exponent
  pub steps : LiesIn 1 4194304 c.steps
  pub clamp_low : pos 0 ≤ℤ c.clamp
  pub clamp_high : c.clamp ≤ℤ pos (2 ^ 126)
  pub words : c.words ≡ c.states + c.rows + 2 * plan_length c
  pub shaped : IsShaped c
  pub low : All IsNumerator c.low
  pub high : All IsNumerator c.high
  pub box : (i : ℕ) → i < c.states → at c.low i ≤ℤ at c.high i

-- the same with the width
pub record IsInForm (c : Numbers) : Type 0 where
  pub sized : IsSized c
  pub width : LiesIn 2 128 c.width

-- each number fits a word of 128 bits
pub record FitsWord (c : Numbers) : Type 0 where
  pub state_gains : All (All (FitsSigned w128)) c.state_gains.rows
  pub offsets : All (FitsSigned w128) c.offsets
  pub dual_gains : All (All (FitsSigned w128)) c.dual_gains.rows
  pub plan_rows : All (All (FitsSigned w128)) c.plan_rows.rows
  pub state_rows : All (All (FitsSigned w128)) c.state_rows.rows
  pub bounds : All (FitsSigned w128) c.bounds
