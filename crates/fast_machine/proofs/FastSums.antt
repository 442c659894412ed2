-- What a bound on the greatest absolute sum says of each, and of the numbers that a step makes.
use Rattle.std.proofs.Common.{◌≡◌, ℕ, zero, suc, ◌+◌, ◌-◌, ◌*◌, ◌^◌, ◌≤◌, ◌<◌, ℤ, pos, ◌+ℤ◌, ◌*ℤ◌, List, length, unsigned_abs, arith, le_refl, subst}
use Rattle.std.proofs.lemmas.Int.{unsigned_abs-mul}
use Rattle.std.proofs.lemmas.Nat.{pow_pos, mul-le}
use Rattle.integer_algebra.specs.Division.{floor_of, ceil_div}
use Rattle.integer_algebra.specs.Sums.{at}
use Rattle.mat_int.proofs.Dots.{abs-add_le}
use Rattle.qp_model.specs.machine.Controller.{Numbers}
use Rattle.qp_model.specs.machine.Machine.{row_sum}
use Rattle.qp_model.specs.machine.AbsoluteSums.{state_magnitudes, entry_absolute_sum, plan_magnitudes, row_absolute_sum, greatest_of}
use Rattle.qp_model.specs.machine.Within.{AreWithin}
use Rattle.qp_model.proofs.AbsoluteLaws.{abs-row_le, abs-floor_le_ceil, ceil_div_mono}
use Rattle.overflow_check.proofs.Greatest.{fast-parts, le-greatest}
use Rattle.overflow_check.proofs.SumLaws.{row_le}
use Rattle.mat_int.specs.Row.{list_dot}
use Rattle.mat_int.specs.Matrix.{row_of}
use Rattle.overflow_check.specs.FastMachine.{step_weight, all_weights, fast_top}
use Rattle.overflow_check.specs.FastController.{moved_magnitude, reached_magnitude, fast_sum_magnitude, greatest_fast_sum}
use Rattle.fast_machine.specs.FastReady.{LiesUpTo}
use Rattle.fast_machine.proofs.WeightSums.{more_weights}
use Rattle.fast_machine.proofs.FastRuns.{top_le}

-- each absolute sum is at most top
pub record FastSumsFit (c : Numbers) (top : ℕ) : Type 0 where
  pub reached : reached_magnitude c ≤ top
  pub states : greatest_of (state_magnitudes c) ≤ top
  pub entries : (j : ℕ) → j < length c.offsets → entry_absolute_sum c j ≤ top
  pub rows : (i : ℕ) → i < length c.bounds → row_absolute_sum c i ≤ top
  pub moved : (i : ℕ) → i < length c.bounds → moved_magnitude c i ≤ top
  pub sums : (j : ℕ) → j < length c.offsets → fast_sum_magnitude c j ≤ top

pub fast_sums_fit : (c : Numbers) (top : ℕ) → greatest_fast_sum c ≤ top → FastSumsFit c top
fast_sums_fit c top h = record {
  reached = omega (arith, h, fast-parts c);
  states = omega (arith, h, fast-parts c);
  entries = λ j l. omega (arith, h, fast-parts c, le-greatest (entry_absolute_sum c) (length c.offsets) j l);
  rows = λ i l. omega (arith, h, fast-parts c, le-greatest (row_absolute_sum c) (length c.bounds) i l);
  moved = λ i l. omega (arith, h, fast-parts c, le-greatest (moved_magnitude c) (length c.bounds) i l);
  sums = λ j l. omega (arith, h, fast-parts c, le-greatest (fast_sum_magnitude c) (length c.offsets) j l);
}

-- ---- weights of a step that a run has
-- none is above all of them, nor above one more than the number of steps
pub weight_le : (k n : ℕ) → k < n → step_weight k ≤ n + 1
weight_le k n h = omega (arith, h)

weights_up : (m k : ℕ) → all_weights k ≤ all_weights (m + k)
weights_up zero k = let e : 0 + k ≡ k = omega arith in rw e (le_refl (all_weights k))
weights_up (suc m) k = let e : suc m + k ≡ suc (m + k) = omega arith in rw e (omega (arith, weights_up m k, more_weights (m + k)))

pub weights_mono : (k n : ℕ) → k ≤ n → all_weights k ≤ all_weights n
weights_mono k n h = subst (λ (m : ℕ). all_weights k ≤ all_weights m) (let e : (n - k) + k ≡ n = omega (arith, h) in e) (weights_up (n - k) k)

pub weights_with : (k n : ℕ) → k < n → all_weights (suc k) ≤ all_weights n
weights_with k n h = weights_mono (suc k) n (omega (arith, h))

pub weight_in : (k n : ℕ) → k < n → step_weight k ≤ all_weights n
weight_in k n h = omega (arith, weights_with k n h, more_weights k)

pub one_weight : (k n : ℕ) → k < n → 1 ≤ all_weights n
one_weight k n h = omega (arith, weight_in k n h)

-- ---- of multipliers
-- so many times the greatest multiplier of a row
pub tops_within : (c : Numbers) (a i : ℕ) → a ≤ all_weights c.steps → a * unsigned_abs (fast_top c i) ≤ reached_magnitude c
tops_within c a i h = omega (arith, mul-le a (unsigned_abs (fast_top c i)) (all_weights c.steps) (2 * unsigned_abs c.clamp) h (top_le c i))

-- so many times the residual that is used
pub residual_le : (c : Numbers) (state plan : List ℤ) (i : ℕ) → AreWithin state (state_magnitudes c) → AreWithin plan (plan_magnitudes c) →
    unsigned_abs (floor_of (row_sum c state plan i) (2 ^ c.fraction_bits)) ≤ ceil_div (row_absolute_sum c i) (2 ^ c.fraction_bits)
residual_le c state plan i w v =
    let z = row_sum c state plan i in
    let d = 2 ^ c.fraction_bits in
    let whole : unsigned_abs z ≤ row_absolute_sum c i = omega (arith, row_le c state plan i w v, abs-row_le (list_dot (row_of c.plan_rows i) plan) (list_dot (row_of c.state_rows i) state) (at c.bounds i) c.fraction_bits) in
    omega (arith, abs-floor_le_ceil z d (pow_pos c.fraction_bits), ceil_div_mono (unsigned_abs z) (row_absolute_sum c i) d (pow_pos c.fraction_bits) whole)

pub times_residual_le : (c : Numbers) (state plan : List ℤ) (k i : ℕ) → k < c.steps → AreWithin state (state_magnitudes c) → AreWithin plan (plan_magnitudes c) →
    unsigned_abs (pos (step_weight k) *ℤ floor_of (row_sum c state plan i) (2 ^ c.fraction_bits)) ≤ (c.steps + 1) * ceil_div (row_absolute_sum c i) (2 ^ c.fraction_bits)
times_residual_le c state plan k i lt w v =
    let residual = floor_of (row_sum c state plan i) (2 ^ c.fraction_bits) in
    omega (
      arith,
      unsigned_abs-mul (pos (step_weight k)) residual,
      mul-le (step_weight k) (unsigned_abs residual) (c.steps + 1) (ceil_div (row_absolute_sum c i) (2 ^ c.fraction_bits)) (weight_le k c.steps lt) (residual_le c state plan i w v),
    )

-- a multiplier before it is clamped
pub moving_le : (c : Numbers) (state plan : List ℤ) (old : ℤ) (k i : ℕ) → k < c.steps → LiesUpTo (unsigned_abs (fast_top c i)) old → AreWithin state (state_magnitudes c) → AreWithin plan (plan_magnitudes c) →
    unsigned_abs (old +ℤ pos (step_weight k) *ℤ floor_of (row_sum c state plan i) (2 ^ c.fraction_bits)) ≤ moved_magnitude c i
moving_le c state plan old k i lt l w v =
    omega (arith, abs-add_le old (pos (step_weight k) *ℤ floor_of (row_sum c state plan i) (2 ^ c.fraction_bits)), l.high, top_le c i, times_residual_le c state plan k i lt w v)
