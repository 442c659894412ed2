-- Where the factors of a controller fit words of 64 bits, or half such words, so does each factor that a step meets.
use Rattle.std.proofs.Common.{◌≡◌, ℕ, ◌+◌, ◌-◌, ◌*◌, ◌^◌, ◌≤◌, ◌<◌, max, ℤ, pos, List, length, get_or, unsigned_abs, arith, refl}
use Rattle.std.specs.Prelude.{All}
use Rattle.std.proofs.lemmas.Nat.{mul-le, pow_pos, pow-add}
use Rattle.std.proofs.Math.Nat.{pow-le-pow_right}
use Rattle.std.proofs.lemmas.List.{get_or_default, get_or-replicate}
use Rattle.std.proofs.lemmas.List.FromFn.{get_or-map-range_with_len}
use Rattle.integer_algebra.specs.Division.{ceil_div}
use Rattle.integer_algebra.proofs.DivisionLaws.{ceil_div-le}
use Rattle.mat_products.specs.Narrow.{IsNarrow}
use Rattle.qp_model.specs.machine.Controller.{Numbers}
use Rattle.qp_model.specs.machine.AbsoluteSums.{state_magnitudes, clamp_magnitudes, plan_magnitudes, entry_absolute_sum, IsController}
use Rattle.qp_model.specs.machine.Within.{AreWithin}
use Rattle.overflow_check.specs.FastController.{with_last_version}
use Rattle.overflow_check.proofs.SumLaws.{sums_fit}
use Rattle.overflow_check.proofs.Sizes.{length-state_reach, length-clamp_reach, length-plan_reach, get_or-reach_of}
use Rattle.fixed_kernel.specs.Factors.{HasNarrowFactors}
use Rattle.fixed_kernel.specs.WordForm.{IsHalf, HasHalfFactors}

-- ---- numbers below a bound, in absolute value
abbrev AreBelow : ℕ → List ℤ → Type 0
AreBelow bound xs = All (λ z. unsigned_abs z < bound) xs

-- numbers within reaches below a bound are below it
within_below : (bound : ℕ) (xs : List ℤ) (reach : List ℕ) → AreWithin xs reach → ((k : ℕ) → k < length reach → get_or reach k 0 < bound) → AreBelow bound xs
within_below bound xs reach w h = λ i d l. rw (get_or_default xs i d (pos 0) l) (omega (arith, w.each i, h i (omega (arith, l, w.long))))

-- raised multipliers, where the clamp is
multipliers_below : (c : Numbers) (multipliers : List ℤ) (bound : ℕ) → unsigned_abs c.clamp < bound → AreWithin multipliers (clamp_magnitudes c) → AreBelow bound multipliers
multipliers_below c multipliers bound h w =
    within_below bound multipliers (clamp_magnitudes c) w (λ i l. rw (get_or-replicate (length c.bounds) i (unsigned_abs c.clamp) 0 (omega (arith, l, length-clamp_reach c))) h)

-- a sum that fits the width is below a power once it is shifted by enough
shifted_below : (sum w k bits : ℕ) → 2 ≤ w → w ≤ k + bits + 1 → sum ≤ 2 ^ (w - 1) - 1 → ceil_div sum (2 ^ k) ≤ 2 ^ bits
shifted_below sum w k bits two h le =
    let grown : 2 ^ (w - 1) ≤ 2 ^ (k + bits) = pow-le-pow_right (omega arith) (omega (arith, two, h)) in
    ceil_div-le sum (2 ^ k) (2 ^ bits) (pow_pos k) (rw (← pow-add 2 k bits) (omega (arith, le, grown)))

-- a plan, where the width is so many bits more than the shift
plan_below : (c : Numbers) (plan : List ℤ) (bits bound : ℕ) → IsController c → c.width ≤ c.fraction_bits + c.step_exponent + bits + 1 → 2 ^ bits < bound → AreWithin plan (plan_magnitudes c) → AreBelow bound plan
plan_below c plan bits bound s width lt w =
    let k = c.fraction_bits + c.step_exponent in
    within_below bound plan (plan_magnitudes c) w (λ j l.
    let in_offsets : j < length c.offsets = omega (arith, l, length-plan_reach c) in
    let below = shifted_below (entry_absolute_sum c j) c.width k bits s.form.width.0 width ((sums_fit c (2 ^ (c.width - 1) - 1) s.fit).entries j in_offsets) in
    rw (get_or-map-range_with_len (λ i. ceil_div (entry_absolute_sum c i) (2 ^ k)) 0 (length c.offsets) j j 0 in_offsets (omega arith)) (omega (arith, below, lt)))

-- ---- half a word
pub multipliers_half : (c : Numbers) (multipliers : List ℤ) → HasHalfFactors c → AreWithin multipliers (clamp_magnitudes c) → All IsHalf multipliers
multipliers_half c multipliers n w = multipliers_below c multipliers (2 ^ 31) n.clamp w

pub plan_half : (c : Numbers) (plan : List ℤ) → IsController c → HasHalfFactors c → AreWithin plan (plan_magnitudes c) → All IsHalf plan
plan_half c plan s n w = plan_below c plan 30 (2 ^ 31) s (omega (arith, n.width)) (omega arith) w

-- those of a controller of another version, which has the same matrices
pub half_last : (c : Numbers) → HasHalfFactors c → HasHalfFactors (with_last_version c)
half_last c h = record { dual_gains = h.dual_gains; plan_rows = h.plan_rows; clamp = h.clamp; width = h.width }

-- ---- a word
pub multipliers_narrow : (c : Numbers) (multipliers : List ℤ) → HasNarrowFactors c → AreWithin multipliers (clamp_magnitudes c) → All IsNarrow multipliers
multipliers_narrow c multipliers n w = multipliers_below c multipliers (2 ^ 63) n.clamp w

pub plan_narrow : (c : Numbers) (plan : List ℤ) → IsController c → HasNarrowFactors c → AreWithin plan (plan_magnitudes c) → All IsNarrow plan
plan_narrow c plan s n w = plan_below c plan 62 (2 ^ 63) s (omega (arith, n.width)) (omega arith) w

-- a coordinate of the box
coordinate_below : (a b k : ℕ) → k ≤ 48 → a < 2 ^ (63 - k) → b < 2 ^ (63 - k) → max a b * 2 ^ k < 2 ^ 63
coordinate_below a b k h l m =
    let n = 63 - k in
    let whole : 2 ^ 63 ≡ 2 ^ n * 2 ^ k = rw (← pow-add 2 n k) (let e : n + k ≡ 63 = omega (arith, h) in rw e refl) in
    let next : (max a b + 1) * 2 ^ k ≤ 2 ^ n * 2 ^ k = mul-le (max a b + 1) (2 ^ k) (2 ^ n) (2 ^ k) (omega (arith, l, m)) (omega arith) in
    omega (arith, whole, next, pow_pos k)

pub state_narrow : (c : Numbers) (state : List ℤ) → IsController c → HasNarrowFactors c → AreWithin state (state_magnitudes c) → All IsNarrow state
state_narrow c state s n w =
    let k = c.fraction_bits - c.grid_bits in
    let shaped = s.form.sized.shaped in
    within_below (2 ^ 63) state (state_magnitudes c) w (λ i l.
    let in_low : i < length c.low = omega (arith, l, length-state_reach c s.form.sized, shaped.low) in
    let in_high : i < length c.high = omega (arith, l, length-state_reach c s.form.sized, shaped.high) in
    rw (get_or-reach_of k c.low c.high i in_low (omega (arith, shaped.low, shaped.high)))
    (coordinate_below (unsigned_abs (get_or c.low i (pos 0))) (unsigned_abs (get_or c.high i (pos 0))) k (omega (arith, s.form.sized.fraction_bits))
    (n.low i (pos 0) in_low) (n.high i (pos 0) in_high)))
