-- The definitions, tried on one small design and its controller, whose numbers were worked out by hand: the plant x+ = x + u, the cost
-- u^2 + (x+)^2, and the rows u <= 1, -u <= 1 and x+ <= 1/4, at the states 0 and 1.
use Rattle.std.proofs.Common.{◌≡◌, ℕ, ◌^◌, ◌*◌, ◌+◌, ◌-◌, pos, ◌*ℤ◌, negsuc, [], ◌∷◌, refl, map, true}
use Rattle.integer_algebra.specs.Sums.{at}
use Rattle.qp_model.specs.problem.Trajectory.{trajectory}
use Rattle.qp_model.specs.problem.Cost.{cost}
use Rattle.qp_model.specs.problem.Residual.{residual_scale, slack}
use Rattle.qp_model.specs.problem.Box.{corner}
use Rattle.qp_model.specs.form.Condensing.{condensed_of}
use Rattle.qp_model.specs.form.Form.{Form}
use Rattle.qp_model.specs.form.Class.{form_of}
use Rattle.qp_model.specs.bounds.Errors.{error_sums_of, plan_bound, residual_error, radius_error, epsilon, error_size}
use Rattle.qp_model.specs.bounds.Choices.{violation_bound, row_violation_bound}
use Rattle.qp_model.specs.machine.Controller.{Numbers}
use Rattle.qp_model.specs.machine.Machine.{loaded, after, entry_sum, averaged_plan, average_denominator, raised, top_of}
use Rattle.qp_model.specs.machine.AbsoluteSums.{greatest_sum, plan_magnitudes, sum_magnitude}
use Rattle.qp_model.specs.bounds.RealErrors.{gain_residual, has_residual_room, real_gradient, real_plan, real_cost}
use Rattle.trials_definitions.proofs.WorkedDesigns.{base}
use Rattle.trials_definitions.proofs.WorkedControllers.{matrix, first_controller, third_controller}

-- ---- corners, slacks and costs: at corner 2, the state 1, the plan -7/8 costs 50/64 and leaves 1/8 to the rows 2 and 3
corner_two : corner base 2 0 ≡ pos 1
corner_two = refl

state_one : trajectory base (pos 8) (λ i. pos 1) (λ j. negsuc 6) 1 0 ≡ pos 1
state_one = refl

cost_two : cost base (pos 8) (λ i. pos 1) (λ j. negsuc 6) ≡ pos 50
cost_two = refl

slack_two : slack base (pos 8) (λ i. pos 1) (λ j. negsuc 6) 1 ≡ pos 4
slack_two = refl

slack_three : slack base (pos 8) (λ i. pos 1) (λ j. negsuc 6) 2 ≡ pos 4
slack_three = refl

slack_scale : residual_scale base ≡ 4
slack_scale = refl

-- ---- condensed numbers
hessian : (condensed_of base).hessian 0 0 ≡ pos 4
hessian = refl

linear : (condensed_of base).linear 0 0 ≡ pos 2
linear = refl

last_row : (condensed_of base).by_plan 2 0 ≡ pos 4
last_row = refl

last_state : (condensed_of base).by_state 2 0 ≡ pos 4
last_state = refl

last_bound : (condensed_of base).bound 2 ≡ pos 1
last_bound = refl

floor : (form_of base).floor ≡ pos 8
floor = refl

-- ---- errors, for multipliers up to 16
first : (error_sums_of base (form_of base) 8).first ≡ 5408
first = refl

lead : (error_sums_of base (form_of base) 8).lead ≡ 25
lead = refl

tail : (error_sums_of base (form_of base) 8).tail ≡ 200
tail = refl

plans : plan_bound (error_sums_of base (form_of base) 8) 10 ≡ 27
plans = refl

residuals : residual_error (error_sums_of base (form_of base) 8) 27 ≡ 31
residuals = refl

errors : epsilon (error_sums_of base (form_of base) 8) 10 ≡ 804534616064
errors = refl

-- ---- the same with radii: the design's numbers over 2^40, each by a midpoint that is exact here, and a radius
abbrev count_from : ℕ → ℕ → ℕ → ℕ
count_from n i j = n + i

abbrev fine : Form
fine = record {
  entries = 1;
  states = 1;
  rows = 3;
  numbers = record {
    hessian = λ i j. pos (2 ^ 40) *ℤ (condensed_of base).hessian i j;
    linear = λ j i. pos (2 ^ 40) *ℤ (condensed_of base).linear j i;
    constant = λ j. pos 0;
    by_plan = λ i j. pos (2 ^ 40) *ℤ (condensed_of base).by_plan i j;
    by_state = λ i j. pos (2 ^ 40) *ℤ (condensed_of base).by_state i j;
    bound = λ i. pos (2 ^ 40) *ℤ (condensed_of base).bound i;
  };
  hessian_radius = count_from 3;
  linear_radius = count_from 2;
  constant_radius = λ j. 1;
  plan_radius = count_from 5;
  state_radius = count_from 0;
  hessian_scale = 2 ^ 40;
  rows_scale = 4 * 2 ^ 40;
  matrix_factor = pos 4;
  row_factor = pos 1;
  floor = pos (4 * (2 * 2 ^ 40 - 3));
  spread = 2;
}

fine_first : (error_sums_of base fine 8).first ≡ 12013
fine_first = refl

fine_lead : (error_sums_of base fine 8).lead ≡ 34
fine_lead = refl

fine_tail : (error_sums_of base fine 8).tail ≡ 250
fine_tail = refl

fine_plans : plan_bound (error_sums_of base fine 8) 10 ≡ 71
fine_plans = refl

fine_radii : radius_error (error_sums_of base fine 8) 71 ≡ 288
fine_radii = refl

fine_errors : epsilon (error_sums_of base fine 8) 10 ≡ 1957928375301
fine_errors = refl

-- where the first two terms are small, the radii's are what is left
fine_errors_late : epsilon (error_sums_of base fine 8) 40 ≡ 6926
fine_errors_late = refl

fine_size : error_size base fine 8 ≡ 94843873012547816
fine_size = refl

-- ---- the controller's machine
-- the entry's absolute sum is 26214400, the greatest of all
absolute : greatest_sum first_controller ≡ 26214400
absolute = refl

plan_reaches : plan_magnitudes first_controller ≡ 12800 ∷ []
plan_reaches = refl

sum_reaches : sum_magnitude first_controller 0 ≡ 51200
sum_reaches = refl

-- the four plans from the state 1
plan_one : (after first_controller (loaded first_controller (pos 1 ∷ [])) 1).plan ≡ negsuc 511 ∷ []
unfolding after
plan_one = refl

plan_two : (after first_controller (loaded first_controller (pos 1 ∷ [])) 2).plan ≡ negsuc 543 ∷ []
unfolding after
plan_two = refl

plan_three : (after first_controller (loaded first_controller (pos 1 ∷ [])) 3).plan ≡ negsuc 571 ∷ []
unfolding after
plan_three = refl

plan_four : (after first_controller (loaded first_controller (pos 1 ∷ [])) 4).plan ≡ negsuc 595 ∷ []
unfolding after
plan_four = refl

-- the third multiplier after each step
multipliers : map (λ k. at (after first_controller (loaded first_controller (pos 1 ∷ [])) k).multipliers 2) (1 ∷ 2 ∷ 3 ∷ 4 ∷ []) ≡ pos 256 ∷ pos 480 ∷ pos 676 ∷ pos 848 ∷ []
unfolding after
multipliers = refl

-- the sum that the last plan entry is the floor of: 1221632 over 2048 is 596.5
last_sum : entry_sum first_controller (loaded first_controller (pos 1 ∷ [])) (after first_controller (loaded first_controller (pos 1 ∷ [])) 3).multipliers 0 ≡ pos 1221632
unfolding after
last_sum = refl

-- the averaged plan: -2224 over 4096
average : averaged_plan first_controller (pos 1 ∷ []) ≡ negsuc 2223 ∷ []
unfolding after
average = refl

over : average_denominator first_controller ≡ 4096
over = refl

-- ---- the same numbers with an exponent for each row
-- the third row's is that of the first version, and the first row's multiplier is always 0
abbrev lowered_controller : Numbers
lowered_controller = record first_controller { version = 2; exponents = 0 ∷ 1 ∷ 1 ∷ [] }

lowered_average : averaged_plan lowered_controller (pos 1 ∷ []) ≡ negsuc 2223 ∷ []
unfolding after
lowered_average = refl

-- the third row's is 0
third_plans : map (λ k. (after third_controller (loaded third_controller (pos 1 ∷ [])) k).plan) (1 ∷ 2 ∷ 3 ∷ 4 ∷ [])
    ≡ (negsuc 511 ∷ []) ∷ (negsuc 575 ∷ []) ∷ (negsuc 623 ∷ []) ∷ (negsuc 659 ∷ []) ∷ []
unfolding after
third_plans = refl

third_multipliers : map (λ k. at (after third_controller (loaded third_controller (pos 1 ∷ [])) k).multipliers 2) (1 ∷ 2 ∷ 3 ∷ 4 ∷ []) ≡ pos 256 ∷ pos 448 ∷ pos 592 ∷ pos 700 ∷ []
unfolding after
third_multipliers = refl

third_raised : raised third_controller (pos 1 ∷ pos 2 ∷ pos 256 ∷ []) ≡ pos 1 ∷ pos 2 ∷ pos 512 ∷ []
third_raised = refl

-- its greatest multiplier is half the others'
third_top : map (top_of third_controller) (0 ∷ 1 ∷ 2 ∷ []) ≡ pos 32768 ∷ pos 32768 ∷ pos 16384 ∷ []
third_top = refl

third_average : averaged_plan third_controller (pos 1 ∷ []) ≡ negsuc 2371 ∷ []
unfolding after
third_average = refl

-- the absolute sums are those of the first version
third_absolute : greatest_sum third_controller ≡ 26214400
third_absolute = refl

-- ---- the errors by the residuals that its gains leave, which are none
state_residual : gain_residual (form_of base) first_controller 0 0 ≡ 0
state_residual = refl

row_residual : gain_residual (form_of base) first_controller 3 0 ≡ 0
row_residual = refl

residual_room : has_residual_room base (form_of base) 8 ≡ true
residual_room = refl

real_gradient_is : real_gradient base (form_of base) 8 first_controller 0 ≡ 4
real_gradient_is = refl

real_plan_is : real_plan base (form_of base) 8 first_controller ≡ 13
real_plan_is = refl

real_cost_is : real_cost base (form_of base) 8 first_controller ≡ 438095052800
real_cost_is = refl

-- ---- what is printed of its rows: the greatest violation, and that of a row whose exponent is 0
greatest_violation : violation_bound 1 8 4 438095052800 ≡ 8850854903808
greatest_violation = refl

own_violation : row_violation_bound 0 1 8 4 438095052800 ≡ 6651831648256
own_violation = refl

same_violation : row_violation_bound 1 1 8 4 438095052800 ≡ 8850854903808
same_violation = refl

-- ---- and where its gains are a little off
abbrev rough_controller : Numbers
rough_controller = record first_controller {
  state_gains = matrix 1 ((pos 512 ∷ []) ∷ []);
  offsets = negsuc 0 ∷ [];
  dual_gains = matrix 3 ((pos 256 ∷ negsuc 254 ∷ pos 256 ∷ []) ∷ []);
}

offset_residual : gain_residual (form_of base) rough_controller 1 0 ≡ 16
offset_residual = refl

rough_gradient : real_gradient base (form_of base) 8 rough_controller 0 ≡ 72
rough_gradient = refl
