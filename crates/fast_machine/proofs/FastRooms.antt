-- A controller of the accelerated machine leaves room for what its steps are made of.
use Rattle.std.proofs.Common.{◌≡◌, ℕ, suc, ◌+◌, ◌-◌, ◌*◌, ◌^◌, ◌≤◌, ◌<◌, ℤ, pos, negsuc, ◌+ℤ◌, ◌-ℤ◌, ◌*ℤ◌, ◌≤ℤ◌, List, length, get_or, unsigned_abs, FitsSigned, arith}
use Rattle.std.specs.Int.{w128}
use Rattle.std.proofs.lemmas.Int.{ints, fits_signed_from_abs}
use Rattle.std.proofs.lemmas.Nat.{mul-le, mul-lt, pow_below}
use Rattle.std.proofs.lemmas.List.{get_or-replicate}
use Rattle.std.proofs.Math.Nat.{div-le_self}
use Rattle.integer_algebra.specs.Division.{floor_of}
use Rattle.integer_algebra.specs.Sums.{at}
use Rattle.mat_int.specs.Row.{list_dot, abs_dot}
use Rattle.mat_int.specs.Matrix.{row_of}
use Rattle.mat_int.proofs.Dots.{abs-add_le, abs-dot_le}
use Rattle.qp_model.specs.machine.Controller.{Numbers}
use Rattle.qp_model.specs.machine.Machine.{IsAdmissible, lowering_of, row_sum}
use Rattle.qp_model.specs.machine.AbsoluteSums.{state_magnitudes, clamp_magnitudes, plan_magnitudes}
use Rattle.qp_model.specs.machine.Within.{AreWithin}
use Rattle.qp_model.proofs.AbsoluteLaws.{le_times_pow, abs-shifted, abs-floor_le, abs-own_le, abs-scaled_le, abs-row_le}
use Rattle.qp_model.proofs.MagnitudeLaws.{entry_parts_le}
use Rattle.overflow_check.proofs.SumLaws.{own_le, dual_le, planned_le, row_parts_le, row_le}
use Rattle.overflow_check.specs.FastMachine.{step_weight, all_weights, fast_top, mean_at, moved_multipliers}
use Rattle.overflow_check.specs.FastController.{IsFastController}
use Rattle.fast_machine.specs.FastReady.{LiesUpTo, AreFastMultipliers, AreFastSums}
use Rattle.fast_machine.proofs.WeightSums.{more_weights}
use Rattle.fast_machine.proofs.FastRuns.{top_le, mean_item, means_within, moved_long, multiplier_kept}
use Rattle.fast_machine.proofs.FastSums.{FastSumsFit, fast_sums_fit, weight_le, weights_with, tops_within, residual_le}

pub fit : (c : Numbers) → IsFastController c → FastSumsFit c (2 ^ 126)
fit c s = fast_sums_fit c (2 ^ 126) s.room

-- ---- plan entries
pub own_room : (c : Numbers) (state : List ℤ) (j : ℕ) → IsFastController c → j < length c.offsets → AreWithin state (state_magnitudes c) → abs_dot (row_of c.state_gains j) state < 2 ^ 127
own_room c state j s h w = omega (arith, own_le c state j w, (fit c s).entries j h)

pub dual_room : (c : Numbers) (means : List ℤ) (j : ℕ) → IsFastController c → j < length c.offsets → AreWithin means (clamp_magnitudes c) → abs_dot (row_of c.dual_gains j) means < 2 ^ 127
dual_room c means j s h w = omega (arith, dual_le c means j w, (fit c s).entries j h)

pub entry_room : (c : Numbers) (state means : List ℤ) (j : ℕ) → IsFastController c → j < length c.offsets → AreWithin state (state_magnitudes c) → AreWithin means (clamp_magnitudes c) →
    (unsigned_abs (list_dot (row_of c.state_gains j) state) + unsigned_abs (at c.offsets j) * 2 ^ c.fraction_bits) * 2 ^ c.step_exponent + unsigned_abs (list_dot (row_of c.dual_gains j) means) ≤ 2 ^ 126
entry_room c state means j s h w v = omega (arith, entry_parts_le c state means j w v, abs-dot_le (row_of c.dual_gains j) means, (fit c s).entries j h)

-- ---- residuals
pub planned_room : (c : Numbers) (plan : List ℤ) (i : ℕ) → IsFastController c → i < length c.bounds → AreWithin plan (plan_magnitudes c) → abs_dot (row_of c.plan_rows i) plan < 2 ^ 127
planned_room c plan i s h w = omega (arith, planned_le c plan i w, (fit c s).rows i h)

pub state_room : (c : Numbers) (state plan : List ℤ) (i : ℕ) → IsFastController c → i < length c.bounds → AreWithin state (state_magnitudes c) → AreWithin plan (plan_magnitudes c) →
    abs_dot (row_of c.state_rows i) state < 2 ^ 127
state_room c state plan i s h w v = omega (arith, row_parts_le c state plan i w v, (fit c s).rows i h)

pub row_room : (c : Numbers) (state plan : List ℤ) (i : ℕ) → IsFastController c → i < length c.bounds → AreWithin state (state_magnitudes c) → AreWithin plan (plan_magnitudes c) →
    unsigned_abs (list_dot (row_of c.plan_rows i) plan) + unsigned_abs (list_dot (row_of c.state_rows i) state) + unsigned_abs (at c.bounds i) * 2 ^ c.fraction_bits ≤ 2 ^ 126
row_room c state plan i s h w v = omega (arith, row_le c state plan i w v, (fit c s).rows i h)

-- ---- multipliers
-- within any bound of the absolute sums
pub moving_within : (c : Numbers) (bound : ℕ) (state plan : List ℤ) (old : ℤ) (k i : ℕ) → FastSumsFit c bound → k < c.steps → i < length c.bounds → LiesUpTo (unsigned_abs (fast_top c i)) old →
    AreWithin state (state_magnitudes c) → AreWithin plan (plan_magnitudes c) → unsigned_abs old + step_weight k * unsigned_abs (floor_of (row_sum c state plan i) (2 ^ c.fraction_bits)) ≤ bound
moving_within c bound state plan old k i s lt h l w v =
    omega (
      arith,
      l.high,
      top_le c i,
      mul-le (step_weight k) _ (c.steps + 1) _ (weight_le k c.steps lt) (residual_le c state plan i w v),
      s.moved i h,
    )

pub moving_room : (c : Numbers) (state plan : List ℤ) (old : ℤ) (k i : ℕ) → IsFastController c → k < c.steps → i < length c.bounds → LiesUpTo (unsigned_abs (fast_top c i)) old →
    AreWithin state (state_magnitudes c) → AreWithin plan (plan_magnitudes c) → unsigned_abs old + step_weight k * unsigned_abs (floor_of (row_sum c state plan i) (2 ^ c.fraction_bits)) ≤ 2 ^ 126
moving_room c state plan old k i s lt h l w v = moving_within c (2 ^ 126) state plan old k i (fit c s) lt h l w v

-- ---- means
pub mean_within : (c : Numbers) (bound : ℕ) (multipliers reached : List ℤ) (k i : ℕ) → FastSumsFit c bound → k < c.steps → i < length c.bounds → AreFastMultipliers c k multipliers reached →
    unsigned_abs (at reached i) + step_weight k * unsigned_abs (at multipliers i) ≤ bound
mean_within c bound multipliers reached k i s lt h r =
    within (all_weights k) (step_weight k) (all_weights (suc k)) (unsigned_abs (fast_top c i)) _ _ (more_weights k) (r.summed i h).high (r.own i h).high
    (omega (arith, tops_within c (all_weights (suc k)) i (weights_with k c.steps lt), s.reached))
  where
    within : (b a u t x y : ℕ) → u ≡ b + a → x ≤ b * t → y ≤ t → u * t ≤ bound → x + a * y ≤ bound
    within b a u t x y e h l m = omega (arith, h, mul-le a y a t (omega arith) l, rw e at m)

pub mean_room : (c : Numbers) (multipliers reached : List ℤ) (k i : ℕ) → IsFastController c → k < c.steps → i < length c.bounds → AreFastMultipliers c k multipliers reached →
    unsigned_abs (at reached i) + step_weight k * unsigned_abs (at multipliers i) ≤ 2 ^ 126
mean_room c multipliers reached k i s lt h r = mean_within c (2 ^ 126) multipliers reached k i (fit c s) lt h r

pub clamp_room : (c : Numbers) (i : ℕ) → IsFastController c → i < length c.bounds → 2 * unsigned_abs c.clamp ≤ 2 ^ 126
clamp_room c i s h = omega (arith, (fit c s).moved i h)

-- a raised mean
pub raised_le : (c : Numbers) (multipliers reached : List ℤ) (k i : ℕ) → IsFastController c → i < length c.bounds → AreFastMultipliers c k multipliers reached →
    unsigned_abs (mean_at k multipliers reached i *ℤ pos (2 ^ lowering_of c i)) ≤ unsigned_abs c.clamp
raised_le c multipliers reached k i s h r =
    let within = means_within c k multipliers reached s.form.sized.rest.clamp_low r in
    let clamp = rw (get_or-replicate (length c.bounds) i (unsigned_abs c.clamp) 0 h) at (within.each i) in
    rw (← mean_item c k multipliers reached i h) clamp

pub raised_fits : (c : Numbers) (multipliers reached : List ℤ) (k i : ℕ) → IsFastController c → i < length c.bounds → AreFastMultipliers c k multipliers reached →
    FitsSigned w128 (mean_at k multipliers reached i *ℤ pos (2 ^ lowering_of c i))
raised_fits c multipliers reached k i s h r = fits_signed_from_abs w128 _ (omega (arith, raised_le c multipliers reached k i s h r, clamp_room c i s h))

-- ---- numbers that fit
pub floor_fits : (z : ℤ) (d : ℕ) → FitsSigned w128 z → FitsSigned w128 (floor_of z d)
floor_fits (pos a) d h = record { sfits = omega (arith, div-le_self a d, h.sfits) }
floor_fits (negsuc a) d h = record { sfits = omega (arith, div-le_self a d, h.sfits) }

-- the parts of a plan entry's sum
pub record EntryFits (own offset dual : ℤ) (f s : ℕ) : Type 0 where
  pub shifted : FitsSigned w128 (offset *ℤ pos (2 ^ f))
  pub unscaled : FitsSigned w128 (own +ℤ offset *ℤ pos (2 ^ f))
  pub scaled : FitsSigned w128 ((own +ℤ offset *ℤ pos (2 ^ f)) *ℤ pos (2 ^ s))
  pub sum : FitsSigned w128 ((own +ℤ offset *ℤ pos (2 ^ f)) *ℤ pos (2 ^ s) +ℤ dual)
  pub minus : FitsSigned w128 (pos 0 -ℤ floor_of ((own +ℤ offset *ℤ pos (2 ^ f)) *ℤ pos (2 ^ s) +ℤ dual) (2 ^ (f + s)))

pub entry_fits : (own offset dual : ℤ) (f s : ℕ) → (unsigned_abs own + unsigned_abs offset * 2 ^ f) * 2 ^ s + unsigned_abs dual ≤ 2 ^ 126 → EntryFits own offset dual f s
entry_fits own offset dual f s h =
    let power = le_times_pow (unsigned_abs own + unsigned_abs offset * 2 ^ f) s in
    let scaled = (own +ℤ offset *ℤ pos (2 ^ f)) *ℤ pos (2 ^ s) in
    let whole : unsigned_abs (scaled +ℤ dual) ≤ 2 ^ 126 = omega (arith, abs-add_le scaled dual, abs-scaled_le own offset f s, h) in
    record {
      shifted = fits_signed_from_abs w128 _ (omega (arith, abs-shifted offset f, power, h));
      unscaled = fits_signed_from_abs w128 _ (omega (arith, abs-own_le own offset f, power, h));
      scaled = fits_signed_from_abs w128 _ (omega (arith, abs-scaled_le own offset f s, h));
      sum = fits_signed_from_abs w128 _ (omega (arith, whole));
      minus = minus_fits (floor_of (scaled +ℤ dual) (2 ^ (f + s))) (omega (arith, abs-floor_le (scaled +ℤ dual) (2 ^ (f + s)), whole));
    }
  where
    minus_fits : (z : ℤ) → unsigned_abs z ≤ 2 ^ 126 → FitsSigned w128 (pos 0 -ℤ z)
    minus_fits z h = fits_signed_from_abs w128 _ (omega (arith, ints, h))

-- ---- the state
coordinate_below : (c : Numbers) (xi : List ℤ) (i : ℕ) → IsFastController c → IsAdmissible c xi → i < c.states → unsigned_abs (at xi i) < 2 ^ 31
coordinate_below c xi i s g h =
    let sized = s.form.sized.rest in
    between (at c.low i) (at xi i) (at c.high i) (g.each i h).low (g.each i h).high (sized.low i (pos 0) (omega (arith, sized.shaped.low, h))) (sized.high i (pos 0) (omega (arith, sized.shaped.high, h)))
  where
    between : (low x high : ℤ) → low ≤ℤ x → x ≤ℤ high → unsigned_abs low < 2 ^ 31 → unsigned_abs high < 2 ^ 31 → unsigned_abs x < 2 ^ 31
    between low x high h l p q = omega (arith, ints, h, l, p, q)

-- a coordinate over 2^fraction_bits fits the word
pub coordinate_fits : (c : Numbers) (xi : List ℤ) (i : ℕ) → IsFastController c → IsAdmissible c xi → i < c.states → FitsSigned w128 (at xi i *ℤ pos (2 ^ (c.fraction_bits - c.grid_bits)))
coordinate_fits c xi i s g h =
    let k = c.fraction_bits - c.grid_bits in
    let small : unsigned_abs (at xi i) * 2 ^ k < 2 ^ 31 * 2 ^ 49 =
    mul-lt (unsigned_abs (at xi i)) (2 ^ k) (2 ^ 31) (2 ^ 49) (coordinate_below c xi i s g h) (pow_below k 49 (omega (arith, s.form.sized.rest.fraction_bits))) in
    fits_signed_from_abs w128 _ (omega (arith, abs-shifted (at xi i) k, small))

-- the least state of the box lies in it
pub low_inside : (c : Numbers) → IsFastController c → IsAdmissible c c.low
low_inside c s = record { long = s.form.sized.rest.shaped.low; each = λ i h. record { low = omega (arith, ints); high = s.form.sized.rest.box i h } }

-- ---- the sums of a step
pub moved_ready : (c : Numbers) (state plan multipliers reached : List ℤ) (k : ℕ) → IsFastController c → AreFastMultipliers c k multipliers reached →
    AreFastMultipliers c k (moved_multipliers c state plan (step_weight k) multipliers) reached
moved_ready c state plan multipliers reached k s r = record {
  multipliers_long = moved_long c state plan (step_weight k) multipliers;
  reached_long = r.reached_long;
  own = λ i lt. multiplier_kept c state plan (step_weight k) multipliers i s.form.sized.rest.clamp_low lt;
  summed = r.summed;
}

pub sum_within : (c : Numbers) (bound : ℕ) (sums plan : List ℤ) (k j : ℕ) → FastSumsFit c bound → k < c.steps → j < length c.offsets → AreFastSums c k sums → AreWithin plan (plan_magnitudes c) →
    unsigned_abs (at sums j) + step_weight k * unsigned_abs (at plan j) ≤ bound
sum_within c bound sums plan k j s lt h r w =
    let u = get_or (plan_magnitudes c) j 0 in
    within (all_weights k) (step_weight k) (all_weights (suc k)) (all_weights c.steps) u (unsigned_abs (at sums j)) (unsigned_abs (at plan j)) (more_weights k) (r.each j h) (w.each j)
    (weights_with k c.steps lt) (s.sums j h)
  where
    within : (b a v n u x y : ℕ) → v ≡ b + a → x ≤ b * u → y ≤ u → v ≤ n → n * u ≤ bound → x + a * y ≤ bound
    within b a v n u x y e h l m q = omega (arith, h, mul-le a y a u (omega arith) l, rw e at (mul-le v u n u m (omega arith)), q)

pub sum_room : (c : Numbers) (sums plan : List ℤ) (k j : ℕ) → IsFastController c → k < c.steps → j < length c.offsets → AreFastSums c k sums → AreWithin plan (plan_magnitudes c) →
    unsigned_abs (at sums j) + step_weight k * unsigned_abs (at plan j) ≤ 2 ^ 126
sum_room c sums plan k j s lt h r w = sum_within c (2 ^ 126) sums plan k j (fit c s) lt h r w

-- the parts of a residual
pub record ResidualFits (planned own bound : ℤ) (f : ℕ) : Type 0 where
  pub shifted : FitsSigned w128 (bound *ℤ pos (2 ^ f))
  pub products : FitsSigned w128 (planned +ℤ own)
  pub residual : FitsSigned w128 (planned +ℤ own -ℤ bound *ℤ pos (2 ^ f))

pub residual_fits : (planned own bound : ℤ) (f : ℕ) → unsigned_abs planned + unsigned_abs own + unsigned_abs bound * 2 ^ f ≤ 2 ^ 126 → ResidualFits planned own bound f
residual_fits planned own bound f h = record {
  shifted = fits_signed_from_abs w128 _ (omega (arith, abs-shifted bound f, h));
  products = fits_signed_from_abs w128 _ (omega (arith, abs-add_le planned own, h));
  residual = fits_signed_from_abs w128 _ (omega (arith, abs-row_le planned own bound f, h));
}
