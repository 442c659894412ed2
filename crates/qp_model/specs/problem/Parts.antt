-- A design's numbers as a design, and their shapes and ranges.
use Rattle.std.specs.Prelude.{◌≡◌, ℕ, ◌+◌, ◌≤◌, ◌<◌, ℤ, pos, ◌≤ℤ◌, List, length, All, unsigned_abs}
use Rattle.integer_algebra.specs.Sums.{at, none}
use Rattle.mat_int.specs.Matrix.{Matrix, entry_of}
use Rattle.qp_model.specs.problem.Design.{Design, CostRow, LimitRow}
use Rattle.qp_model.specs.problem.Limits.{text_version, last_version, most_states, most_inputs, most_stages}
use Rattle.qp_model.specs.problem.Range.{LiesIn, IsDenominator, IsNumerator, IsPositive}
use Rattle.qp_model.specs.declared.design_parts.DesignParts.{DesignParts}

-- row r of a matrix as a cost row of n coefficients, its target and its weight
abbrev pub cost_row : Matrix → ℕ → ℕ → CostRow
cost_row m n r = record { coefficient = entry_of m r; target = entry_of m r n; weight = entry_of m r (n + 1) }

-- as a limit row of n numbers of the state, p of the input, and its bound
abbrev pub limit_row : Matrix → ℕ → ℕ → ℕ → LimitRow
limit_row m n p r = record { of_state = entry_of m r; of_input = λ l. entry_of m r (n + l); bound = entry_of m r (n + p) }

-- the same with no part of the input
abbrev pub final_row : Matrix → ℕ → ℕ → LimitRow
final_row m n r = record { of_state = entry_of m r; of_input = none; bound = entry_of m r n }

-- the design with these numbers
abbrev pub design_of : DesignParts → Design
design_of p = record {
  version = p.version;
  states = p.states;
  inputs = p.inputs;
  stages = p.stages;
  plant_denominator = unsigned_abs p.plant_den;
  plant_a = entry_of p.a;
  plant_b = entry_of p.b;
  cost_denominator = unsigned_abs p.cost_den;
  row_denominator = unsigned_abs p.row_den;
  input_weight = at p.input_weights.items;
  stage_costs = length p.stage_cost.rows;
  stage_cost = cost_row p.stage_cost p.states;
  final_costs = length p.final_cost.rows;
  final_cost = cost_row p.final_cost p.states;
  limit_denominator = unsigned_abs p.limit_den;
  stage_limits = length p.stage_rows.rows;
  stage_limit = limit_row p.stage_rows p.states p.inputs;
  final_limits = length p.final_rows.rows;
  final_limit = final_row p.final_rows p.states;
  grid = p.grid;
  low = at p.lo.items;
  high = at p.hi.items;
}

-- the numbers alone: two values of `DesignParts` with the same are the same design
pub record DesignNumbers : Type 0 where
  pub version : ℕ
  pub states : ℕ
  pub inputs : ℕ
  pub stages : ℕ
  pub plant_den : ℤ
  pub a : Matrix
  pub b : Matrix
  pub cost_den : ℤ
  pub row_den : ℤ
  pub input_weights : List ℤ
  pub stage_cost : Matrix
  pub final_cost : Matrix
  pub limit_den : ℤ
  pub stage_rows : Matrix
  pub final_rows : Matrix
  pub grid : ℕ
  pub lo : List ℤ
  pub hi : List ℤ
  pub target_den : ℤ
  pub violation : ℤ
  pub gap : ℤ

abbrev pub design_numbers : DesignParts → DesignNumbers
design_numbers p = record {
  version = p.version;
  states = p.states;
  inputs = p.inputs;
  stages = p.stages;
  plant_den = p.plant_den;
  a = p.a;
  b = p.b;
  cost_den = p.cost_den;
  row_den = p.row_den;
  input_weights = p.input_weights.items;
  stage_cost = p.stage_cost;
  final_cost = p.final_cost;
  limit_den = p.limit_den;
  stage_rows = p.stage_rows;
  final_rows = p.final_rows;
  grid = p.grid;
  lo = p.lo.items;
  hi = p.hi.items;
  target_den = p.target_den;
  violation = p.violation;
  gap = p.gap;
}

-- ---- shapes and ranges
-- a matrix of numerators
pub record IsTable (m : Matrix) (low high width : ℕ) : Type 0 where
  pub rows : LiesIn low high (length m.rows)
  pub cols : m.cols ≡ width
  pub numbers : All (All IsNumerator) m.rows

-- a list of numerators
pub record IsNumeratorList (xs : List ℤ) (n : ℕ) : Type 0 where
  pub long : length xs ≡ n
  pub numbers : All IsNumerator xs

pub record IsDesign (p : DesignParts) : Type 0 where
  pub version : LiesIn text_version last_version p.version
  pub states : LiesIn 1 (most_states p.version) p.states
  pub inputs : LiesIn 1 (most_inputs p.version) p.inputs
  pub stages : LiesIn 1 (most_stages p.version) p.stages
  pub plant_den : IsDenominator p.plant_den
  pub a : IsTable p.a p.states p.states p.states
  pub b : IsTable p.b p.states p.states p.inputs
  pub cost_den : IsDenominator p.cost_den
  pub row_den : IsDenominator p.row_den
  pub input_count : length p.input_weights.items ≡ p.inputs
  pub input_weights : All IsPositive p.input_weights.items
  pub stage_cost : IsTable p.stage_cost 0 12 (p.states + 2)
  pub stage_weights : (r : ℕ) → r < length p.stage_cost.rows → pos 0 ≤ℤ entry_of p.stage_cost r (p.states + 1)
  pub final_cost : IsTable p.final_cost 0 12 (p.states + 2)
  pub final_weights : (r : ℕ) → r < length p.final_cost.rows → pos 0 ≤ℤ entry_of p.final_cost r (p.states + 1)
  pub limit_den : IsDenominator p.limit_den
  pub stage_rows : IsTable p.stage_rows 0 12 (p.states + p.inputs + 1)
  pub final_rows : IsTable p.final_rows 0 12 (p.states + 1)
  pub some_row : 1 ≤ length p.stage_rows.rows + length p.final_rows.rows
  pub grid : p.grid ≤ 24
  pub lo : IsNumeratorList p.lo.items p.states
  pub hi : IsNumeratorList p.hi.items p.states
  pub box : (i : ℕ) → i < p.states → at p.lo.items i ≤ℤ at p.hi.items i
  pub target_den : IsDenominator p.target_den
  pub violation : IsPositive p.violation
  pub gap : IsPositive p.gap
