-- The numbers of a made design, its policy and the states of its box.
use Rattle.std.specs.Prelude.{ℕ, ◌*◌, ℤ, pos, neg_ℤ, List, [], ◌∷◌, replicate}
use Rattle.mat_int.specs.Matrix.{Matrix, zero_matrix}
use Rattle.qp_model.specs.problem.Limits.{text_version}
use Rattle.qp_model.specs.problem.Parts.{DesignNumbers}
use Rattle.qp_model.specs.problem.Policy.{Plans}
use Rattle.design_maker.specs.declared.draws.Drawn.{Drawn}
use Rattle.design_maker.specs.Texts.{plant_rows, input_weights, cost_rows, corner_states}

abbrev minus : ℕ → ℤ
minus n = neg_ℤ (pos n)

-- each input at most 4 over 4 in absolute value, and each state at most 5 over 4: numbers of the state, of the input, and the bound
abbrev pub limit_rows : List (List ℤ)
limit_rows =
    (pos 0 ∷ pos 0 ∷ pos 4 ∷ pos 0 ∷ pos 4 ∷ [])
    ∷ (pos 0 ∷ pos 0 ∷ minus 4 ∷ pos 0 ∷ pos 4 ∷ [])
    ∷ (pos 0 ∷ pos 0 ∷ pos 0 ∷ pos 4 ∷ pos 4 ∷ [])
    ∷ (pos 0 ∷ pos 0 ∷ pos 0 ∷ minus 4 ∷ pos 4 ∷ [])
    ∷ (pos 4 ∷ pos 0 ∷ pos 0 ∷ pos 0 ∷ pos 5 ∷ [])
    ∷ (minus 4 ∷ pos 0 ∷ pos 0 ∷ pos 0 ∷ pos 5 ∷ [])
    ∷ (pos 0 ∷ pos 4 ∷ pos 0 ∷ pos 0 ∷ pos 5 ∷ [])
    ∷ (pos 0 ∷ minus 4 ∷ pos 0 ∷ pos 0 ∷ pos 5 ∷ [])
    ∷ []

abbrev pub final_rows : List (List ℤ)
final_rows =
    (pos 4 ∷ pos 0 ∷ pos 5 ∷ [])
    ∷ (minus 4 ∷ pos 0 ∷ pos 5 ∷ [])
    ∷ (pos 0 ∷ pos 4 ∷ pos 5 ∷ [])
    ∷ (pos 0 ∷ minus 4 ∷ pos 5 ∷ [])
    ∷ []

-- each input moves its own state
abbrev pub input_rows : List (List ℤ)
input_rows = (pos 4 ∷ pos 0 ∷ []) ∷ (pos 0 ∷ pos 4 ∷ []) ∷ []

abbrev pub made_numbers : Drawn → ℕ → DesignNumbers
made_numbers d stages = record {
  version = text_version;
  states = 2;
  inputs = 2;
  stages = stages;
  plant_den = pos 4;
  a = record { cols = 2; rows = plant_rows d };
  b = record { cols = 2; rows = input_rows };
  cost_den = pos 1;
  row_den = pos 1;
  input_weights = input_weights d;
  stage_cost = record { cols = 4; rows = cost_rows d };
  final_cost = record { cols = 4; rows = [] };
  limit_den = pos 4;
  stage_rows = record { cols = 5; rows = limit_rows };
  final_rows = record { cols = 3; rows = final_rows };
  grid = 4;
  lo = minus 16 ∷ minus 16 ∷ [];
  hi = pos 16 ∷ pos 16 ∷ [];
  target_den = pos 4;
  violation = pos 1;
  gap = pos 4;
}

-- from each of the four corners a plan of zeros over 1
abbrev pub coasting_plans : ℕ → Plans
coasting_plans stages = record { denominators = replicate 4 (pos 1); numerators = zero_matrix 4 (2 * stages) }

-- a state in each row
abbrev pub corner_matrix : Matrix
corner_matrix = record { cols = 2; rows = corner_states }
