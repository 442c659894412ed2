-- A value of the design's type that has the made numbers.
use Rattle.std.proofs.Common.{ℕ, ℤ, pos, neg_ℤ, [], ◌∷◌, refl, arith, lit<, Vec, Global}
use Rattle.std.specs.Ptr.{null_ptr}
use Rattle.qp_model.specs.problem.Range.{LiesIn}
use Rattle.qp_model.specs.declared.design_parts.DesignParts.{DesignParts}
use Rattle.design_maker.specs.declared.draws.Drawn.{Drawn}
use Rattle.design_maker.specs.Draws.{drawn}
use Rattle.design_maker.specs.Texts.{design_text, policy_text, states_text, plant_rows, cost_rows}
use Rattle.design_maker.specs.MadeParts.{limit_rows, final_rows, input_rows}
use Rattle.design_maker.specs.MadeLaw.{AreMade}
use Rattle.design_maker.proofs.MadeLaws.{made_law}

abbrev two_numbers : Global → ℤ → ℤ → Vec ℤ Global
two_numbers alloc y z = record { ptr = null_ptr; len = 2; cap = 2; alloc = alloc; items = y ∷ z ∷ []; ok = (refl, omega arith); small = lit< tt }

abbrev made_parts : Global → Drawn → ℕ → DesignParts
made_parts alloc d stages = record {
  version = 1;
  states = 2;
  inputs = 2;
  stages = stages;
  plant_den = pos 4;
  a = record { cols = 2; rows = plant_rows d };
  b = record { cols = 2; rows = input_rows };
  cost_den = pos 1;
  row_den = pos 1;
  input_weights = two_numbers alloc d.first_input d.second_input;
  stage_cost = record { cols = 4; rows = cost_rows d };
  final_cost = record { cols = 4; rows = [] };
  limit_den = pos 4;
  stage_rows = record { cols = 5; rows = limit_rows };
  final_rows = record { cols = 3; rows = final_rows };
  grid = 4;
  lo = two_numbers alloc (neg_ℤ (pos 16)) (neg_ℤ (pos 16));
  hi = two_numbers alloc (pos 16) (pos 16);
  target_den = pos 4;
  violation = pos 1;
  gap = pos 4;
}

pub are_made : (alloc : Global) (seed stages : ℕ) → LiesIn 1 20 stages → AreMade seed stages (design_text seed stages) (policy_text stages) states_text
are_made alloc seed stages h = let p = made_parts alloc (drawn seed) stages in (p, refl, made_law seed stages h p refl)
