-- The designs that the rows try, each by what it has else than another, and the policy that several of them read.
use Rattle.std.proofs.Common.{ℕ, zero, suc, ◌+◌, ◌<◌, ℤ, pos, negsuc, List, [], ◌∷◌, arith}
use Rattle.integer_algebra.specs.Sums.{none, at, flat}
use Rattle.qp_model.specs.problem.Design.{Design, CostRow, LimitRow}
use Rattle.qp_model.specs.problem.Policy.{Plans}

abbrev pub two : ℤ → ℤ → List ℤ
two a b = a ∷ b ∷ []

abbrev pub costing : (ℕ → ℤ) → ℤ → ℤ → CostRow
costing x target weight = record { coefficient = x; target = target; weight = weight }

abbrev pub asking : (ℕ → ℤ) → (ℕ → ℤ) → ℤ → LimitRow
asking x u b = record { of_state = x; of_input = u; bound = b }

-- ---- x+ = x + u, the cost u^2 + (x+)^2, and the rows u <= 1, -u <= 1 and x+ <= 1/4, at the states 0 and 1
abbrev input_rows : ℕ → LimitRow
input_rows zero = asking (λ j. pos 0) (λ l. pos 4) (pos 4)
input_rows (suc r) = asking (λ j. pos 0) (λ l. negsuc 3) (pos 4)

abbrev pub base : Design
base = record {
  version = 1;
  states = 1;
  inputs = 1;
  stages = 1;
  plant_denominator = 1;
  plant_a = λ i j. pos 1;
  plant_b = λ i l. pos 1;
  cost_denominator = 1;
  row_denominator = 1;
  input_weight = λ l. pos 1;
  stage_costs = 1;
  stage_cost = λ r. costing (λ j. pos 1) (pos 0) (pos 1);
  final_costs = 0;
  final_cost = λ r. costing (λ j. pos 0) (pos 0) (pos 0);
  limit_denominator = 4;
  stage_limits = 2;
  stage_limit = input_rows;
  final_limits = 1;
  final_limit = λ r. asking (λ j. pos 4) (λ l. pos 0) (pos 1);
  grid = 0;
  low = λ i. pos 0;
  high = λ i. pos 1;
}

-- what holds of each of its three rows, and of their numbers by its one entry or state
pub three : (P : ℕ → Type 0) → P 0 → P 1 → P 2 → (i : ℕ) → i < 3 → P i
three P a b c zero l = a
three P a b c (suc zero) l = b
three P a b c (suc (suc zero)) l = c
three P a b c (suc (suc (suc i))) l = absurd (omega (arith, l))

pub three_by_one : (P : ℕ → ℕ → Type 0) → P 0 0 → P 1 0 → P 2 0 → (i j : ℕ) → i < 3 → j < 1 → P i j
three_by_one P a b c i zero h l = three (λ k. P k 0) a b c i h
three_by_one P a b c i (suc j) h l = absurd (omega (arith, l))

-- ---- x+ = (2 x - u) / 3 over two stages, with one row of each kind
abbrev pub third : Design
third = record base {
  stages = 2;
  plant_denominator = 3;
  plant_a = λ i j. pos 2;
  plant_b = λ i l. negsuc 0;
  cost_denominator = 2;
  row_denominator = 5;
  input_weight = λ l. pos 3;
  stage_cost = λ r. costing (λ j. pos 4) (pos 7) (pos 6);
  final_costs = 1;
  final_cost = λ r. costing (λ j. negsuc 1) (pos 1) (pos 9);
  stage_limits = 1;
  stage_limit = λ r. asking (λ j. pos 1) (λ l. negsuc 2) (pos 5);
  final_limit = λ r. asking (λ j. pos 7) (λ l. pos 0) (pos 2);
}

-- its plans at the two corners
abbrev pub thirds : Plans
thirds = record {
  denominators = pos 3 ∷ pos 7 ∷ [];
  numerators = record { rows = two (pos 1) (negsuc 1) ∷ two (pos 5) (pos 0) ∷ []; cols = 2 };
}

-- ---- the same with two states and two inputs
abbrev pub crossed : Design
crossed = record third {
  states = 2;
  inputs = 2;
  plant_a = flat 2 (pos 2 ∷ pos 1 ∷ pos 0 ∷ negsuc 3 ∷ []);
  plant_b = flat 2 (pos 1 ∷ pos 0 ∷ pos 2 ∷ negsuc 4 ∷ []);
  input_weight = at (two (pos 3) (pos 2));
  stage_cost = λ r. costing (at (two (pos 4) (negsuc 0))) (pos 7) (pos 6);
  final_cost = λ r. costing (at (two (negsuc 1) (pos 3))) (pos 1) (pos 9);
  stage_limit = λ r. asking (at (two (pos 1) (pos 2))) (at (two (negsuc 2) (pos 8))) (pos 5);
  final_limit = λ r. asking (at (two (pos 7) (pos 0))) none (pos 2);
}

-- ---- and with no number that is 1 by chance: states over 2^2, three stages, and two rows of each kind
abbrev mixed_costs : ℕ → CostRow
mixed_costs zero = costing (at (two (pos 4) (negsuc 0))) (pos 7) (pos 6)
mixed_costs (suc r) = costing (at (two (pos 0) (pos 5))) (negsuc 1) (pos 1)

abbrev mixed_limits : ℕ → LimitRow
mixed_limits zero = asking (at (two (pos 1) (pos 2))) (at (two (negsuc 1) (pos 8))) (pos 5)
mixed_limits (suc r) = asking (at (two (pos 0) (negsuc 2))) (at (two (pos 1) (pos 0))) (pos 2)

abbrev mixed_final_limits : ℕ → LimitRow
mixed_final_limits zero = asking (at (two (pos 7) (pos 0))) none (pos 2)
mixed_final_limits (suc r) = asking (at (two (pos 1) (negsuc 0))) none (negsuc 2)

abbrev pub mixed : Design
mixed = record crossed {
  stages = 3;
  plant_a = flat 2 (pos 2 ∷ pos 1 ∷ pos 0 ∷ negsuc 2 ∷ []);
  plant_b = flat 2 (pos 1 ∷ pos 0 ∷ pos 2 ∷ negsuc 3 ∷ []);
  stage_costs = 2;
  stage_cost = mixed_costs;
  final_cost = λ r. costing (at (two (negsuc 0) (pos 3))) (pos 1) (pos 9);
  stage_limits = 2;
  stage_limit = mixed_limits;
  final_limits = 2;
  final_limit = mixed_final_limits;
  grid = 2;
  low = at (two (negsuc 6) (pos 2));
  high = at (two (pos 5) (pos 9));
}

-- ---- x1+ = x1, x2+ = x2 + u over two stages, the cost u^2, the rows u <= 3, u <= 4 and at the end x2 <= 7, at the states from 1, 2 to 5, 6
abbrev pub plain : Design
plain = record base {
  states = 2;
  stages = 2;
  plant_a = flat 2 (pos 1 ∷ pos 0 ∷ pos 0 ∷ pos 1 ∷ []);
  plant_b = flat 1 (two (pos 0) (pos 1));
  stage_costs = 0;
  stage_cost = λ r. costing none (pos 0) (pos 0);
  limit_denominator = 1;
  stage_limit = λ r. asking none (λ l. pos 1) (pos (3 + r));
  final_limit = λ r. asking (at (two (pos 0) (pos 1))) none (pos 7);
  low = at (two (pos 1) (pos 2));
  high = at (two (pos 5) (pos 6));
}
