-- A design is known by its numbers.
use Rattle.std.proofs.Common.{◌≡◌, ap, length, unsigned_abs}
use Rattle.integer_algebra.specs.Sums.{at}
use Rattle.mat_int.specs.Matrix.{entry_of}
use Rattle.qp_model.specs.problem.Design.{Design}
use Rattle.qp_model.specs.problem.Parts.{DesignNumbers, design_numbers, design_of, cost_row, limit_row, final_row}
use Rattle.qp_model.specs.declared.design_parts.DesignParts.{DesignParts}

-- the design with these numbers
abbrev pub from_numbers : DesignNumbers → Design
from_numbers p = record {
  version = p.version;
  states = p.states;
  inputs = p.inputs;
  stages = p.stages;
  plant_denominator = unsigned_abs p.plant_den;
  plant_a = entry_of p.a;
  plant_b = entry_of p.b;
  cost_denominator = unsigned_abs p.cost_den;
  row_denominator = unsigned_abs p.row_den;
  input_weight = at p.input_weights;
  stage_costs = length p.stage_cost.rows;
  stage_cost = cost_row p.stage_cost p.states;
  final_costs = length p.final_cost.rows;
  final_cost = cost_row p.final_cost p.states;
  limit_denominator = unsigned_abs p.limit_den;
  stage_limits = length p.stage_rows.rows;
  stage_limit = limit_row p.stage_rows p.states p.inputs;
  final_limits = length p.final_rows.rows;
  final_limit = final_row p.final_rows p.states;
  grid = p.grid;
  low = at p.lo;
  high = at p.hi;
}

-- two values with the same numbers are the same design
pub same_design : (p q : DesignParts) → design_numbers p ≡ design_numbers q → design_of p ≡ design_of q
same_design p q e = ap from_numbers e
