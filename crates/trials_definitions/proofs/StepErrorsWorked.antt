-- The law of the errors, tried on one small design and its controller, whose numbers were worked out by hand: the plant x+ = x + u, the cost
-- u^2 + (x+)^2, and the rows u <= 1, -u <= 1 and x+ <= 1/4, at the states 0 and 1. The design is sound, the controller has its sizes and is made
-- for it, and the bounds are the worked ones: by the exact form, and by one over 2^40 with radii. That its numbers are a `DesignParts` and keep
-- its width isn't tried here.
use Rattle.std.proofs.Common.{◌≡◌, inr, ℕ, zero, suc, ◌+◌, ◌-◌, ◌*◌, ◌^◌, ◌<◌, ◌≤◌, [], ◌∷◌, ℤ, pos, negsuc, ◌+ℤ◌, ◌-ℤ◌, ◌*ℤ◌, neg_ℤ, ◌≤ℤ◌, length, unsigned_abs, arith, ap, ◌∙◌, refl}
use Rattle.std.specs.Prelude.{All}
use Rattle.std.proofs.lemmas.Int.{ints}
use Rattle.integer_algebra.specs.Sums.{total, image, square, at}
use Rattle.integer_algebra.specs.Bounds.{IsWithin}
use Rattle.integer_algebra.specs.Division.{round_of}
use Rattle.integer_algebra.proofs.OrderLaws.{le_by, square_nonneg_z, mul-le-mul_left_z}
use Rattle.integer_algebra.proofs.Quoting.{by_ring, quotes}
use Rattle.mat_int.specs.Matrix.{entry_of}
use Rattle.qp_model.specs.problem.Sound.{IsSound}
use Rattle.qp_model.specs.form.Curvature.{AreExponents, curvature, row_change}
use Rattle.qp_model.specs.form.GoodSolution.{IsGood}
use Rattle.qp_model.specs.form.Columns.{columns, solve_matrix, solve_column}
use Rattle.qp_model.specs.form.Quantities.{input_floor}
use Rattle.qp_model.specs.bounds.Errors.{stated_errors}
use Rattle.qp_model.specs.form.Form.{Form, IsFormFor, exact_form}
use Rattle.qp_model.specs.machine.Machine.{exponent_of}
use Rattle.qp_model.proofs.FormLaws.{exact_form_sound}
use Rattle.qp_model.specs.form.Condensing.{condensed_of}
use Rattle.qp_model.specs.machine.Controller.{IsShaped, IsSized}
use Rattle.qp_model.specs.bounds.Built.{gain_column, HasSizesOf, IsDerivedFrom}
use Rattle.qp_model.proofs.CostLaws.{condensing}
use Rattle.step_error.specs.MachineLaws.{raised_at, plan_at, used_residual, HasErrors}
use Rattle.step_error.proofs.Slopes.{within_cancel, within_same}
use Rattle.step_error.proofs.MachineErrors.{errors_by}
use Rattle.trials_definitions.proofs.WorkedDesigns.{base, three, three_by_one}
use Rattle.trials_definitions.proofs.WorkedControllers.{first_controller}
use Rattle.trials_definitions.proofs.PromiseAtStateWorked.{grid_high}

-- ---- the premises
sound : IsSound base (input_floor base)
sound = record {
  plant_denominator = omega arith;
  cost_denominator = omega arith;
  row_denominator = omega arith;
  limit_denominator = omega arith;
  rho_positive = omega arith;
  inputs = omega arith;
  input_weight = λ l h. omega (arith, ints);
  stage_weight = λ r h. omega (arith, ints);
  final_weight = λ r h. omega (arith, ints);
}

one_line : (x : ℤ) → All (λ row. length row ≡ 1) ((x ∷ []) ∷ [])
one_line x zero d h = refl
one_line x (suc k) d h = absurd (omega arith)

wide_line : All (λ row. length row ≡ 3) first_controller.dual_gains.rows
wide_line zero d h = refl
wide_line (suc k) d h = absurd (omega arith)

three_lines : (x y z : ℤ) → All (λ row. length row ≡ 1) ((x ∷ []) ∷ (y ∷ []) ∷ (z ∷ []) ∷ [])
three_lines x y z zero d h = refl
three_lines x y z (suc zero) d h = refl
three_lines x y z (suc (suc zero)) d h = refl
three_lines x y z (suc (suc (suc k))) d h = absurd (omega arith)

small_number : (x : ℤ) → unsigned_abs x ≤ 1 → All (λ z. unsigned_abs z < 2 ^ 31) (x ∷ [])
small_number x p zero d h = omega (arith, p)
small_number x p (suc k) d h = absurd (omega arith)

ordered : (i : ℕ) → i < 1 → at first_controller.low i ≤ℤ at first_controller.high i
ordered zero h = omega (arith, ints)
ordered (suc i) h = absurd (omega arith)

shaped : IsShaped first_controller
shaped = record {
  exponents = refl;
  low = refl;
  high = refl;
  state_gains = record { rows = refl; cols = refl; each = one_line (pos 512) };
  offsets = refl;
  dual_gains = record { rows = refl; cols = refl; each = wide_line };
  plan_rows = record { rows = refl; cols = refl; each = three_lines (pos 1024) (negsuc 1023) (pos 1024) };
  state_rows = record { rows = refl; cols = refl; each = three_lines (pos 0) (pos 0) (pos 1024) };
  bounds = refl;
}

low_exponents : All (λ s. s ≤ 1) first_controller.exponents
low_exponents zero d h = omega arith
low_exponents (suc zero) d h = omega arith
low_exponents (suc (suc zero)) d h = omega arith
low_exponents (suc (suc (suc k))) d h = absurd (omega arith)

sized : IsSized first_controller
sized = record {
  version = (omega arith, omega arith);
  states = (omega arith, omega arith);
  inputs = (omega arith, omega arith);
  stages = (omega arith, omega arith);
  rows = (omega arith, omega arith);
  grid_bits = omega arith;
  fraction_bits = (omega arith, omega arith);
  step_exponent = omega arith;
  exponents = low_exponents;
  same_exponents = λ e. refl;
  steps = (omega arith, omega arith);
  clamp_low = omega (arith, ints);
  clamp_high = omega (arith, ints);
  words = refl;
  shaped = shaped;
  low = small_number (pos 0) (omega arith);
  high = small_number (pos 1) (omega arith);
  box = ordered;
}

same_low : (i : ℕ) → i < 1 → at first_controller.low i ≡ base.low i
same_low zero h = refl
same_low (suc i) h = absurd (omega arith)

same_high : (i : ℕ) → i < 1 → at first_controller.high i ≡ base.high i
same_high zero h = refl
same_high (suc i) h = absurd (omega arith)

sizes : HasSizesOf base first_controller
sizes = record { states = refl; inputs = refl; stages = refl; rows = refl; grid = refl; low = same_low; high = same_high }

-- the rows change by 4 v, -4 v and 4 v over 4, and Vq(v) is 2 v^2: 3 v^2 is at most 2 * 2 v^2
exponents : AreExponents base (exponent_of first_controller) first_controller.step_exponent
exponents = record {
  bounded = λ i l. low_exponents i 0 l;
  descent = λ v. le_by (mul-le-mul_left_z (pos 16) (omega (arith, ints)) (square_nonneg_z (v 0))) (closed (v 0));
}
  where
    closed : (x : ℤ) → pos 32 *ℤ curvature base (λ j. x) +ℤ pos 16 *ℤ pos 0 ≡ pos 1 *ℤ total 3 (λ i. pos 1 *ℤ square (row_change base (λ j. x) i)) +ℤ pos 16 *ℤ square x
    closed x = by_ring (x ∷ []) (search quotes depth 90 fits 20000) refl

-- ---- the exact form
exact_plan_rows : (i j : ℕ) → i < 3 → j < 1 → entry_of first_controller.plan_rows i j ≡ round_of (pos 1024 *ℤ (condensed_of base).by_plan i j) 4
exact_plan_rows = three_by_one _ refl refl refl

exact_state_rows : (i j : ℕ) → i < 3 → j < 1 → entry_of first_controller.state_rows i j ≡ round_of (pos 1024 *ℤ (condensed_of base).by_state i j) 4
exact_state_rows = three_by_one _ refl refl refl

exact_bounds : (i : ℕ) → i < 3 → at first_controller.bounds i ≡ round_of (pos 1024 *ℤ (condensed_of base).bound i) 4
exact_bounds = three _ refl refl refl

-- each gain solves its system: 16 times it is 2^10 times the column's number
exact_gains : (i j : ℕ) → i < 5 → j < 1 → image 1 (solve_matrix (exact_form base)) (gain_column first_controller i) j ≡ pos 1024 *ℤ solve_column (exact_form base) i j
exact_gains zero zero h l = refl
exact_gains (suc zero) zero h l = refl
exact_gains (suc (suc zero)) zero h l = refl
exact_gains (suc (suc (suc zero))) zero h l = refl
exact_gains (suc (suc (suc (suc zero)))) zero h l = refl
exact_gains (suc (suc (suc (suc (suc i))))) zero h l = absurd (omega arith)
exact_gains i (suc j) h l = absurd (omega arith)

exact_diagonal : (j : ℕ) → j < 1 → solve_matrix (exact_form base) j j ≡ pos 16
exact_diagonal zero l = refl
exact_diagonal (suc j) l = absurd (omega arith)

exact_good : (i : ℕ) → i < columns (exact_form base) → IsGood 1 (solve_matrix (exact_form base)) 10 (solve_column (exact_form base) i) (gain_column first_controller i)
exact_good i h j l = (
  rw (exact_gains i j h l, exact_diagonal j l) (exact (pos 1024 *ℤ solve_column (exact_form base) i j)),
  rw (exact_gains i j h l, exact_diagonal j l) (exact (pos 1024 *ℤ solve_column (exact_form base) i j)),
)
  where
    exact : (z : ℤ) → (pos 2 *ℤ (z -ℤ z)) ≤ℤ pos 16
    exact z = omega (arith, ints)

exact_made : IsDerivedFrom base (exact_form base) 8 first_controller
exact_made = record {
  sizes = sizes;
  rows = record { plan_rows = exact_plan_rows; state_rows = exact_state_rows; bounds = exact_bounds };
  gains = exact_good;
  exponents = exponents;
  clamp = refl;
}

-- ---- a form over 2^40 with radii
-- each number but the bounds is off by 1, or by 0 where its radius is 0: 4 + 2^-40 for 4, 2 - 2^-40 for 2, 2^-40 for 0, and so on
abbrev rounded_plan : ℕ → ℕ → ℤ
rounded_plan zero j = pos (2 ^ 42 + 1)
rounded_plan (suc zero) j = neg_ℤ (pos (2 ^ 42))
rounded_plan (suc (suc i)) j = pos (2 ^ 42)

abbrev plan_radius : ℕ → ℕ → ℕ
plan_radius zero j = 1
plan_radius (suc i) j = 0

abbrev rounded_state : ℕ → ℕ → ℤ
rounded_state zero j = pos 0
rounded_state (suc zero) j = pos 0
rounded_state (suc (suc i)) j = pos (2 ^ 42 - 1)

abbrev state_radius : ℕ → ℕ → ℕ
state_radius zero j = 0
state_radius (suc zero) j = 0
state_radius (suc (suc i)) j = 1

abbrev rounded_bound : ℕ → ℤ
rounded_bound zero = pos (2 ^ 42)
rounded_bound (suc zero) = pos (2 ^ 42)
rounded_bound (suc (suc i)) = pos (2 ^ 40)

abbrev rounded : Form
rounded = record {
  entries = 1;
  states = 1;
  rows = 3;
  numbers = record {
    hessian = λ i j. pos (2 ^ 42 + 1);
    linear = λ j i. pos (2 ^ 41 - 1);
    constant = λ j. pos 1;
    by_plan = rounded_plan;
    by_state = rounded_state;
    bound = rounded_bound;
  };
  hessian_radius = λ i j. 1;
  linear_radius = λ j i. 1;
  constant_radius = λ j. 1;
  plan_radius = plan_radius;
  state_radius = state_radius;
  hessian_scale = 2 ^ 40;
  rows_scale = 2 ^ 42;
  matrix_factor = pos 4;
  row_factor = pos 1;
  floor = pos (2 ^ 44);
  spread = 2;
}

-- one number within a radius
apart : (z : ℤ) (n : ℕ) → unsigned_abs z ≤ n → IsWithin (pos n) z
apart z n h = record { below = omega (arith, ints, h); above = omega (arith, ints, h) }

hessian_encloses : (i j : ℕ) → i < 1 → j < 1 → IsWithin (pos (1 * 1)) (pos (2 ^ 40) *ℤ (condensed_of base).hessian i j -ℤ pos 1 *ℤ pos (2 ^ 42 + 1))
hessian_encloses zero zero h l = apart (negsuc 0) 1 (omega arith)
hessian_encloses (suc i) j h l = absurd (omega arith)
hessian_encloses i (suc j) h l = absurd (omega arith)

linear_encloses : (j i : ℕ) → j < 1 → i < 1 → IsWithin (pos (1 * 1)) (pos (2 ^ 40) *ℤ (condensed_of base).linear j i -ℤ pos 1 *ℤ pos (2 ^ 41 - 1))
linear_encloses zero zero h l = apart (pos 1) 1 (omega arith)
linear_encloses (suc j) i h l = absurd (omega arith)
linear_encloses j (suc i) h l = absurd (omega arith)

constant_encloses : (j : ℕ) → j < 1 → IsWithin (pos (1 * 1)) (pos (2 ^ 40) *ℤ (condensed_of base).constant j -ℤ pos 1 *ℤ pos 1)
constant_encloses zero h = apart (negsuc 0) 1 (omega arith)
constant_encloses (suc j) h = absurd (omega arith)

plan_encloses : (i j : ℕ) → i < 3 → j < 1 → IsWithin (pos (4 * plan_radius i j)) (pos (2 ^ 42) *ℤ (condensed_of base).by_plan i j -ℤ pos 4 *ℤ rounded_plan i j)
plan_encloses = three_by_one _ (apart (negsuc 3) 4 (omega arith)) (apart (pos 0) 0 (omega arith)) (apart (pos 0) 0 (omega arith))

state_encloses : (i j : ℕ) → i < 3 → j < 1 → IsWithin (pos (4 * state_radius i j)) (pos (2 ^ 42) *ℤ (condensed_of base).by_state i j -ℤ pos 4 *ℤ rounded_state i j)
state_encloses = three_by_one _ (apart (pos 0) 0 (omega arith)) (apart (pos 0) 0 (omega arith)) (apart (pos 4) 4 (omega arith))

bounds_same : (i : ℕ) → i < 3 → pos (2 ^ 42) *ℤ (condensed_of base).bound i ≡ pos 4 *ℤ rounded_bound i
bounds_same = three _ refl refl refl

rounded_form : IsFormFor base rounded
rounded_form = record {
  encloses = record {
    entry_count = refl;
    state_count = refl;
    row_count = refl;
    symmetric = λ i j h l. refl;
    hessian = hessian_encloses;
    linear = linear_encloses;
    constant = constant_encloses;
    plan = plan_encloses;
    state = state_encloses;
    bound = bounds_same;
  };
  hessian_some = omega arith;
  rows_some = omega arith;
  matrix_factor = refl;
  row_factor = refl;
  class = inr (record { hessian_scale = refl; rows_scale = refl; narrow = λ i h. omega arith }, refl);
}

-- the same gains and rows
rounded_plan_rows : (i j : ℕ) → i < 3 → j < 1 → entry_of first_controller.plan_rows i j ≡ round_of (pos 1024 *ℤ rounded_plan i j) (2 ^ 42)
rounded_plan_rows = three_by_one _ refl refl refl

rounded_state_rows : (i j : ℕ) → i < 3 → j < 1 → entry_of first_controller.state_rows i j ≡ round_of (pos 1024 *ℤ rounded_state i j) (2 ^ 42)
rounded_state_rows = three_by_one _ refl refl refl

rounded_bounds : (i : ℕ) → i < 3 → at first_controller.bounds i ≡ round_of (pos 1024 *ℤ rounded_bound i) (2 ^ 42)
rounded_bounds = three _ refl refl refl

-- each gain misses its system by less than half the diagonal: at most 12288 of 2^44 + 4
rounded_good : (i : ℕ) → i < columns rounded → IsGood 1 (solve_matrix rounded) 10 (solve_column rounded i) (gain_column first_controller i)
rounded_good zero h zero l = (omega (arith, ints), omega (arith, ints))
rounded_good (suc zero) h zero l = (omega (arith, ints), omega (arith, ints))
rounded_good (suc (suc zero)) h zero l = (omega (arith, ints), omega (arith, ints))
rounded_good (suc (suc (suc zero))) h zero l = (omega (arith, ints), omega (arith, ints))
rounded_good (suc (suc (suc (suc zero)))) h zero l = (omega (arith, ints), omega (arith, ints))
rounded_good (suc (suc (suc (suc (suc i))))) h zero l = absurd (omega arith)
rounded_good i h (suc j) l = absurd (omega arith)

rounded_made : IsDerivedFrom base rounded 8 first_controller
rounded_made = record {
  sizes = sizes;
  rows = record { plan_rows = rounded_plan_rows; state_rows = rounded_state_rows; bounds = rounded_bounds };
  gains = rounded_good;
  exponents = exponents;
  clamp = refl;
}

-- ---- the bounds
-- by the exact form, over 2^11 and 2^10: multipliers up to 16, a plan up to 27, a gradient up to 2^-10 * 104, and residuals up to 2^-11 * 31
exact_run : (k : ℕ) → HasErrors base (exact_form base) 8 first_controller (pos 1 ∷ []) k (stated_errors base (exact_form base) 8 10)
exact_run k = errors_by base (exact_form base) 8 first_controller (pos 1 ∷ []) sound (condensing base (omega arith)) (exact_form_sound base (input_floor base) sound) exact_made sized refl grid_high k

module _ (k : ℕ) where
  abbrev plan : ℤ
  plan = at (plan_at first_controller (pos 1 ∷ []) k) 0

  abbrev multiplier : ℕ → ℤ
  multiplier i = raised_at first_controller (pos 1 ∷ []) k i

  multipliers_worked : (i : ℕ) → i < 3 → (pos 0 ≤ℤ multiplier i) × (multiplier i ≤ℤ pos 32768)
  multipliers_worked i h = ((exact_run k).multipliers.low i h, (exact_run k).multipliers.high i h)

  plan_worked : unsigned_abs plan ≤ 27648
  plan_worked = (exact_run k).plan 0 (omega arith)

  -- 4 times (4 u + 2 x + y1 - y2 + y3)
  slant_worked : (u a b e : ℤ) →
      pos 4 *ℤ (pos 1 *ℤ (pos 0 +ℤ pos 4 *ℤ (pos 2 *ℤ u)) +ℤ (pos 1 *ℤ pos 2048) *ℤ (pos 2 *ℤ pos 1)) +ℤ
      pos 1 *ℤ (pos 1 *ℤ (pos 0 +ℤ pos 4 *ℤ a +ℤ negsuc 3 *ℤ b +ℤ pos 4 *ℤ e)) ≡ pos 4 *ℤ (pos 8 *ℤ u +ℤ pos 4096 +ℤ a -ℤ b +ℤ e)
  slant_worked u a b e = by_ring (u ∷ a ∷ b ∷ e ∷ []) (search quotes depth 90 fits 20000) refl

  gradient_worked : IsWithin (pos 832) (pos 4 *ℤ (pos 8 *ℤ plan +ℤ pos 4096 +ℤ multiplier 0 -ℤ multiplier 1 +ℤ multiplier 2))
  gradient_worked = within_cancel (pos (2 ^ 40)) (pos 832) _ (omega (arith, ints))
      (within_same refl (ap (λ (z : ℤ). pos (2 ^ 40) *ℤ z) (slant_worked plan (multiplier 0) (multiplier 1) (multiplier 2))) ((exact_run k).gradient 0 (omega arith)))

  -- the last row: 4 times (x + u - 1/4)
  last_row : (g w u : ℤ) →
      g *ℤ (pos 4 *ℤ w -ℤ (pos 0 +ℤ pos 4 *ℤ (pos 0 +ℤ pos 1 *ℤ (pos 1024 *ℤ pos 1) +ℤ pos 1 *ℤ (pos 0 +ℤ pos 1 *ℤ u)) -ℤ
      pos 1 *ℤ pos 1024 *ℤ pos 1 *ℤ pos 1)) ≡ g *ℤ (pos 4 *ℤ w -ℤ (pos 4 *ℤ u +ℤ pos 3072))
  last_row g w u = by_ring (g ∷ w ∷ u ∷ []) (search quotes depth 90 fits 20000) refl

  residual_worked : IsWithin (pos 124) (pos 2 *ℤ (pos 4 *ℤ used_residual first_controller (pos 1 ∷ []) k 2 -ℤ (pos 4 *ℤ plan +ℤ pos 3072)))
  residual_worked = within_cancel (pos 4) (pos 124) _ (omega (arith, ints))
      (within_same refl (last_row (pos 8) (used_residual first_controller (pos 1 ∷ []) k 2) plan ∙ turn (pos 4 *ℤ used_residual first_controller (pos 1 ∷ []) k 2 -ℤ (pos 4 *ℤ plan +ℤ pos 3072)))
      ((exact_run k).residuals 2 (omega arith)))
    where
      turn : (z : ℤ) → pos 8 *ℤ z ≡ pos 4 *ℤ (pos 2 *ℤ z)
      turn z = by_ring (z ∷ []) (search quotes depth 60 fits 20000) refl

  -- by the form with radii: a plan up to 71, a gradient up to 2^-10 * 155 + 2^-40 * 77, and the last residual up to 2^-11 * 75 + 2^-42
  rounded_errors : HasErrors base rounded 8 first_controller (pos 1 ∷ []) k (stated_errors base rounded 8 10)
  rounded_errors = errors_by base rounded 8 first_controller (pos 1 ∷ []) sound (condensing base (omega arith)) rounded_form rounded_made sized refl grid_high k

  rounded_plan_worked : unsigned_abs plan ≤ 72704
  rounded_plan_worked = rounded_errors.plan 0 (omega arith)

  rounded_gradient_worked : IsWithin (pos (4 * (2 ^ 40 * 310 + 2048 * 77))) (pos (2 ^ 40) *ℤ (pos 4 *ℤ (pos 8 *ℤ plan +ℤ pos 4096 +ℤ multiplier 0 -ℤ multiplier 1 +ℤ multiplier 2)))
  rounded_gradient_worked = within_same refl (ap (λ (z : ℤ). pos (2 ^ 40) *ℤ z) (slant_worked plan (multiplier 0) (multiplier 1) (multiplier 2))) (rounded_errors.gradient 0 (omega arith))

  rounded_residual_worked : IsWithin (pos (4 * (2 ^ 42 * 75 + 2048))) (pos (2 ^ 43) *ℤ (pos 4 *ℤ used_residual first_controller (pos 1 ∷ []) k 2 -ℤ (pos 4 *ℤ plan +ℤ pos 3072)))
  rounded_residual_worked = within_same refl (last_row (pos (2 ^ 43)) (used_residual first_controller (pos 1 ∷ []) k 2) plan) (rounded_errors.residuals 2 (omega arith))
