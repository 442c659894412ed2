-- What is counted, feasible and in its box of a design whose plant changes little, and, of two where no number is 1 by chance and no two counts are the same that could be
-- taken for one another, the states, the cost and the residuals of a plan. These were computed by another program, in fractions.
use Rattle.std.proofs.Common.{◌≡◌, ℕ, zero, suc, ℤ, pos, negsuc, [], ◌∷◌, map, refl, arith}
use Rattle.integer_algebra.specs.Sums.{at, none, flat}
use Rattle.qp_model.specs.problem.Design.{Design, CostRow, LimitRow, entries, rows}
use Rattle.qp_model.specs.problem.Trajectory.{trajectory, lift}
use Rattle.qp_model.specs.problem.Cost.{cost, cost_scale}
use Rattle.qp_model.specs.problem.Residual.{residual, residual_scale, slack, IsFeasible}
use Rattle.qp_model.specs.problem.Box.{IsGridState, corner}
use Rattle.trials_definitions.proofs.WorkedDesigns.{two, costing, asking, plain, mixed}

abbrev pub lowest : ℕ → ℤ
lowest = at (two (pos 1) (pos 2))

counts : entries plain ∷ rows plain ∷ [] ≡ 2 ∷ 5 ∷ []
counts = refl

lifts : map (lift (record plain { plant_denominator = 3 })) (0 ∷ 1 ∷ 2 ∷ []) ≡ pos 9 ∷ pos 3 ∷ pos 1 ∷ []
lifts = refl

-- ---- the plan 3, 2 meets two rows exactly, and 3, 3 breaks the last by 1
residuals : map (residual plain (pos 1) lowest (at (pos 3 ∷ pos 2 ∷ []))) (0 ∷ 1 ∷ 2 ∷ 3 ∷ 4 ∷ []) ≡ pos 0 ∷ negsuc 0 ∷ negsuc 0 ∷ negsuc 1 ∷ pos 0 ∷ []
residuals = refl

slacks : map (slack plain (pos 1) lowest (at (pos 3 ∷ pos 3 ∷ []))) (0 ∷ 1 ∷ 2 ∷ 3 ∷ 4 ∷ []) ≡ pos 0 ∷ pos 1 ∷ pos 0 ∷ pos 1 ∷ negsuc 0 ∷ []
slacks = refl

feasible : IsFeasible plain (pos 1) lowest (at (pos 3 ∷ pos 2 ∷ []))
feasible zero l = record { le = tt }
feasible (suc zero) l = record { le = tt }
feasible (suc (suc zero)) l = record { le = tt }
feasible (suc (suc (suc zero))) l = record { le = tt }
feasible (suc (suc (suc (suc zero)))) l = record { le = tt }
feasible (suc (suc (suc (suc (suc i))))) l = absurd (omega (arith, l))

feasible_not : IsFeasible plain (pos 1) lowest (at (pos 3 ∷ pos 3 ∷ [])) → ⊥
feasible_not h = (h 4 (omega arith)).le

costs : map (λ k. cost plain (pos 1) lowest (at (pos 3 ∷ k ∷ []))) (pos 2 ∷ negsuc 4 ∷ []) ≡ pos 13 ∷ pos 34 ∷ []
costs = refl

-- ---- the box: two ends lie in it, and no state with a coordinate beyond
pub box_low : IsGridState plain lowest
box_low zero l = (record { le = tt }, record { le = tt })
box_low (suc zero) l = (record { le = tt }, record { le = tt })
box_low (suc (suc i)) l = absurd (omega (arith, l))

box_high : IsGridState plain (at (pos 5 ∷ pos 6 ∷ []))
box_high zero l = (record { le = tt }, record { le = tt })
box_high (suc zero) l = (record { le = tt }, record { le = tt })
box_high (suc (suc i)) l = absurd (omega (arith, l))

first_below : IsGridState plain (at (pos 0 ∷ pos 2 ∷ [])) → ⊥
first_below h = (h 0 (omega arith)).0.le

first_above : IsGridState plain (at (pos 6 ∷ pos 2 ∷ [])) → ⊥
first_above h = (h 0 (omega arith)).1.le

second_below : IsGridState plain (at (pos 1 ∷ pos 1 ∷ [])) → ⊥
second_below h = (h 1 (omega arith)).0.le

second_above : IsGridState plain (at (pos 1 ∷ pos 7 ∷ [])) → ⊥
second_above h = (h 1 (omega arith)).1.le

corners : map (λ c. corner plain c 0) (1 ∷ 2 ∷ 3 ∷ 4 ∷ []) ≡ pos 1 ∷ pos 5 ∷ pos 1 ∷ pos 5 ∷ []
corners = refl

second_corners : map (λ c. corner plain c 1) (1 ∷ 2 ∷ 3 ∷ 4 ∷ []) ≡ pos 2 ∷ pos 2 ∷ pos 6 ∷ pos 6 ∷ []
second_corners = refl

-- ---- one row of costs of each stage and two final ones, a plant over 3, states over 2, costs over 2 and 5, limits over 4
abbrev stage_costs : ℕ → CostRow
stage_costs zero = costing (at (two (pos 4) (negsuc 0))) (pos 7) (pos 6)
stage_costs (suc r) = costing (at (two (pos 1) (pos 1))) (pos 2) (pos 5)

abbrev final_costs : ℕ → CostRow
final_costs zero = costing (at (two (pos 0) (pos 5))) (negsuc 1) (pos 1)
final_costs (suc r) = costing (at (two (pos 2) (pos 1))) (pos 3) (pos 4)

abbrev stage_limits : ℕ → LimitRow
stage_limits zero = asking (at (two (pos 1) (pos 2))) (at (two (negsuc 0) (pos 8))) (pos 5)
stage_limits (suc r) = asking (at (two (pos 0) (negsuc 2))) (at (two (pos 2) (pos 6))) (pos 2)

abbrev final_limits : ℕ → LimitRow
final_limits zero = asking (at (two (pos 7) (pos 1))) (at (two (pos 5) (pos 5))) (pos 3)
final_limits (suc r) = asking (at (two (pos 1) (negsuc 0))) none (negsuc 2)

abbrev uneven : Design
uneven = record plain {
  plant_denominator = 3;
  plant_a = flat 2 (pos 2 ∷ pos 1 ∷ negsuc 0 ∷ pos 4 ∷ []);
  plant_b = flat 1 (pos 1 ∷ negsuc 1 ∷ []);
  cost_denominator = 2;
  row_denominator = 5;
  input_weight = at (pos 3 ∷ pos 11 ∷ []);
  stage_costs = 1;
  stage_cost = stage_costs;
  final_costs = 2;
  final_cost = final_costs;
  limit_denominator = 4;
  stage_limit = stage_limits;
  final_limit = final_limits;
  grid = 1;
}

-- the state 3/2, -5/2, and the plan 1/6, -2/6
abbrev state : ℕ → ℤ
state = at (pos 3 ∷ negsuc 4 ∷ [])

abbrev plan : ℕ → ℤ
plan = at (pos 1 ∷ negsuc 1 ∷ [])

first_coordinates : map (λ k. trajectory uneven (pos 6) state plan k 0) (0 ∷ 1 ∷ 2 ∷ []) ≡ pos 18 ∷ pos 8 ∷ negsuc 137 ∷ []
first_coordinates = refl

second_coordinates : map (λ k. trajectory uneven (pos 6) state plan k 1) (0 ∷ 1 ∷ 2 ∷ []) ≡ negsuc 29 ∷ negsuc 141 ∷ negsuc 551 ∷ []
second_coordinates = refl

scales : cost_scale uneven ∷ residual_scale uneven ∷ [] ≡ 16200 ∷ 72 ∷ []
scales = refl

uneven_cost : cost uneven (pos 6) state plan ≡ pos 15659604
uneven_cost = refl

uneven_residuals : map (residual uneven (pos 6) state plan) (0 ∷ 1 ∷ 2 ∷ 3 ∷ 4 ∷ []) ≡ negsuc 935 ∷ pos 630 ∷ negsuc 1331 ∷ pos 990 ∷ negsuc 1841 ∷ []
uneven_residuals = refl

-- ---- two states over 2^2, two inputs, three stages, a plant over 3, costs over 2 and 5, limits over 4, and two rows of each kind
-- the state 3/4, -5/4, and a plan over 6
abbrev mixed_state : ℕ → ℤ
mixed_state = at (two (pos 3) (negsuc 4))

abbrev mixed_plan : ℕ → ℤ
mixed_plan = at (pos 1 ∷ negsuc 1 ∷ pos 4 ∷ pos 0 ∷ negsuc 2 ∷ pos 5 ∷ [])

mixed_counts : entries mixed ∷ rows mixed ∷ [] ≡ 6 ∷ 8 ∷ []
mixed_counts = refl

mixed_first_coordinates : map (λ k. trajectory mixed (pos 6) mixed_state mixed_plan k 0) (0 ∷ 1 ∷ 2 ∷ 3 ∷ []) ≡ pos 18 ∷ pos 10 ∷ pos 198 ∷ negsuc 5 ∷ []
mixed_first_coordinates = refl

mixed_second_coordinates : map (λ k. trajectory mixed (pos 6) mixed_state mixed_plan k 1) (0 ∷ 1 ∷ 2 ∷ 3 ∷ []) ≡ negsuc 29 ∷ pos 130 ∷ negsuc 293 ∷ negsuc 53 ∷ []
mixed_second_coordinates = refl

mixed_cost : cost mixed (pos 6) mixed_state mixed_plan ≡ pos 410392548
mixed_cost = refl

mixed_scales : cost_scale mixed ∷ residual_scale mixed ∷ [] ≡ 583200 ∷ 432 ∷ []
mixed_scales = refl

mixed_residuals : map (residual mixed (pos 6) mixed_state mixed_plan) (0 ∷ 1 ∷ 2 ∷ 3 ∷ 4 ∷ 5 ∷ 6 ∷ 7 ∷ [])
    ≡ negsuc 6317 ∷ pos 1242 ∷ negsuc 1673 ∷ negsuc 4373 ∷ pos 558 ∷ pos 1026 ∷ negsuc 1337 ∷ pos 1992 ∷ []
mixed_residuals = refl

-- the four corners, each coordinate of all
mixed_corners : map (λ c. corner mixed c 0) (1 ∷ 2 ∷ 3 ∷ 4 ∷ []) ≡ negsuc 6 ∷ pos 5 ∷ negsuc 6 ∷ pos 5 ∷ []
mixed_corners = refl

mixed_second_corners : map (λ c. corner mixed c 1) (1 ∷ 2 ∷ 3 ∷ 4 ∷ []) ≡ pos 2 ∷ pos 2 ∷ pos 9 ∷ pos 9 ∷ []
mixed_second_corners = refl
