-- A worked loop: the plant x + u, the plan -x/2 where no multiplier moves, and the limits -1 and 1 on the input; states over 2^4, numbers over 2^11.
use Rattle.std.specs.Prelude.{◌≡◌, ℕ, ℤ, pos, negsuc, ◌*ℤ◌, [], ◌∷◌}
use Rattle.integer_algebra.specs.Sums.{none}
use Rattle.qp_model.specs.problem.Design.{Design}
use Rattle.qp_model.specs.machine.Controller.{Numbers}
use Rattle.settle_check.specs.Still.{Box, box_of, fraction_unit, still_sum}
use Rattle.settle_check.specs.Tube.{tube}

abbrev pub worked_plant : Design
worked_plant = record {
  version = 2;
  states = 1;
  inputs = 1;
  stages = 1;
  plant_denominator = 1;
  plant_a = λ i j. pos 1;
  plant_b = λ i j. pos 1;
  cost_denominator = 1;
  row_denominator = 1;
  input_weight = λ j. pos 1;
  stage_costs = 0;
  stage_cost = λ r. record { coefficient = none; target = pos 0; weight = pos 0 };
  final_costs = 1;
  final_cost = λ r. record { coefficient = λ j. pos 1; target = pos 0; weight = pos 1 };
  limit_denominator = 1;
  stage_limits = 2;
  stage_limit = λ r. record { of_state = none; of_input = λ j. pos 1; bound = pos 1 };
  final_limits = 0;
  final_limit = λ r. record { of_state = none; of_input = none; bound = pos 0 };
  grid = 4;
  low = λ i. negsuc 39;
  high = λ i. pos 40;
}

abbrev pub worked_controller : Numbers
worked_controller = record {
  version = 2;
  states = 1;
  inputs = 1;
  stages = 1;
  rows = 2;
  fraction_bits = 11;
  grid_bits = 4;
  step_exponent = 0;
  width = 64;
  steps = 9;
  clamp = pos 4096;
  words = 5;
  exponents = 0 ∷ 0 ∷ [];
  low = negsuc 39 ∷ [];
  high = pos 40 ∷ [];
  state_gains = record { cols = 1; rows = (pos 1024 ∷ []) ∷ [] };
  offsets = pos 0 ∷ [];
  dual_gains = record { cols = 2; rows = (pos 1024 ∷ negsuc 1023 ∷ []) ∷ [] };
  plan_rows = record { cols = 1; rows = (pos 2048 ∷ []) ∷ (negsuc 2047 ∷ []) ∷ [] };
  state_rows = record { cols = 1; rows = (pos 0 ∷ []) ∷ (pos 0 ∷ []) ∷ [] };
  bounds = pos 2048 ∷ pos 2048 ∷ [];
}

-- from low to high
abbrev pub worked_box : (low high : ℤ) → Box
worked_box low high = box_of (low ∷ []) (high ∷ [])

-- where a loop from the box -31 .. 32 lies, without shifts
abbrev pub worked_tube : ℕ → Box
worked_tube = tube worked_plant worked_controller (worked_box (negsuc 30) (pos 32)) (worked_box (pos 0) (pos 0)) (worked_box (negsuc 30) (pos 32))

-- in -31 .. 32 no multiplier moves, and one step further on either side the test refuses; and a loop from there lies within 2 from turn 4 on
pub record WorkedSettling : Type 0 where
  pub limit : pos (fraction_unit worked_controller) *ℤ pos (fraction_unit worked_controller) ≡ pos 4194304
  pub first_row : still_sum worked_controller (worked_box (negsuc 30) (pos 32)) 0 ≡ negsuc 264241151
  pub second_row : still_sum worked_controller (worked_box (negsuc 30) (pos 32)) 1 ≡ pos 0
  pub below : still_sum worked_controller (worked_box (negsuc 31) (pos 32)) 0 ≡ pos 4194304
  pub above : still_sum worked_controller (worked_box (negsuc 30) (pos 33)) 1 ≡ pos 268435456
  pub turn_1 : ((worked_tube 1).low 0 ≡ negsuc 15) × ((worked_tube 1).high 0 ≡ pos 16)
  pub turn_2 : ((worked_tube 2).low 0 ≡ negsuc 7) × ((worked_tube 2).high 0 ≡ pos 8)
  pub turn_3 : ((worked_tube 3).low 0 ≡ negsuc 3) × ((worked_tube 3).high 0 ≡ pos 4)
  pub turn_4 : ((worked_tube 4).low 0 ≡ negsuc 1) × ((worked_tube 4).high 0 ≡ pos 2)
