-- The lengths that a controller's sizes give.
use Rattle.std.proofs.Common.{◌≡◌, ℕ, zero, suc, ◌+◌, ◌-◌, ◌*◌, ◌^◌, ◌<◌, ◌≤◌, max, ℤ, pos, List, [], ◌∷◌, length, map, get_or, unsigned_abs, refl, le_refl, sym, subst, arith}
use Rattle.std.specs.Prelude.{All}
use Rattle.std.specs.List.{range_with_len}
use Rattle.std.proofs.lemmas.Nat.{mul-le, mul-lt, pow_below, pow_pos}
use Rattle.std.proofs.lemmas.List.{length-replicate}
use Rattle.std.proofs.lemmas.List.FromFn.{length-map-range_with_len}
use Rattle.integer_algebra.specs.Division.{ceil_div}
use Rattle.integer_algebra.proofs.DivisionLaws.{ceil_div-le}
use Rattle.qp_model.specs.problem.Range.{IsNumerator}
use Rattle.qp_model.specs.machine.Controller.{Numbers, IsSized}
use Rattle.qp_model.specs.machine.AbsoluteSums.{magnitudes_of, state_magnitudes, clamp_magnitudes, entry_absolute_sum, plan_magnitudes, greatest_of}
use Rattle.qp_model.proofs.VersionLaws.{stages_le, limits_le}
use Rattle.overflow_check.specs.Machines.{greatest_for, greatest_entry_sum}
use Rattle.overflow_check.specs.declared.machine.Machine.{Machine}
use Rattle.overflow_check.specs.declared.machine.Machine.TheVariants.{Plain, Accelerated}
use Rattle.overflow_check.proofs.Greatest.{greatest-parts, fast-parts}

-- ---- lengths of the reaches
pub length-reach_of : (k : ℕ) (lows highs : List ℤ) → length lows ≡ length highs → length (magnitudes_of k lows highs) ≡ length lows
length-reach_of k [] highs e = refl
length-reach_of k (low ∷ lows) [] e = absurd (omega arith)
length-reach_of k (low ∷ lows) (high ∷ highs) e = omega (arith, length-reach_of k lows highs (omega arith))

pub get_or-reach_of : (k : ℕ) (lows highs : List ℤ) (i : ℕ) → i < length lows → length lows ≡ length highs →
    get_or (magnitudes_of k lows highs) i 0 ≡ max (unsigned_abs (get_or lows i (pos 0))) (unsigned_abs (get_or highs i (pos 0))) * 2 ^ k
get_or-reach_of k [] highs i h e = absurd (omega arith)
get_or-reach_of k (low ∷ lows) [] i h e = absurd (omega arith)
get_or-reach_of k (low ∷ lows) (high ∷ highs) zero h e = refl
get_or-reach_of k (low ∷ lows) (high ∷ highs) (suc i) h e = get_or-reach_of k lows highs i (omega arith) (omega arith)

pub length-state_reach : (c : Numbers) → IsSized c → length (state_magnitudes c) ≡ c.states
length-state_reach c s =
    omega (arith, length-reach_of (c.fraction_bits - c.grid_bits) c.low c.high (omega (arith, s.shaped.low, s.shaped.high)), s.shaped.low)

pub length-clamp_reach : (c : Numbers) → length (clamp_magnitudes c) ≡ length c.bounds
length-clamp_reach c = length-replicate (length c.bounds) (unsigned_abs c.clamp)

pub length-plan_reach : (c : Numbers) → length (plan_magnitudes c) ≡ length c.offsets
length-plan_reach c = length-map-range_with_len _ 0 (length c.offsets)

-- ---- limits
pub entries_le : (c : Numbers) → IsSized c → length c.offsets ≤ 90
entries_le c s = omega (arith, s.shaped.offsets, mul-le c.inputs c.stages 3 30 s.inputs.1 (stages_le c s))

pub rows_le : (c : Numbers) → IsSized c → length c.bounds ≤ 372
rows_le c s = omega (arith, s.shaped.bounds, limits_le c s)

-- ---- numbers read
pub numerator_read : (xs : List ℤ) (i : ℕ) (x : ℤ) → All IsNumerator xs → i < length xs → x ≡ get_or xs i x → unsigned_abs x < 2 ^ 31
numerator_read xs i x all lt e = subst (λ (z : ℤ). unsigned_abs z < 2 ^ 31) (sym e) (all i x lt)

pub reach_below : (a b k : ℕ) → a < 2 ^ 31 → b < 2 ^ 31 → k ≤ 48 → max a b * 2 ^ k < 2 ^ 80
reach_below a b k h l m = mul-lt (max a b) (2 ^ k) (2 ^ 31) (2 ^ 49) (omega arith) (pow_below k 49 (omega arith))

-- ---- the plan's magnitudes
-- quotients are at most the numbers that are divided, and so is their greatest
greatest_quotient : (f : ℕ → ℕ) (d a n : ℕ) → 0 < d → greatest_of (map (λ j. ceil_div (f j) d) (range_with_len a n)) ≤ greatest_of (map f (range_with_len a n))
greatest_quotient f d a zero h = omega arith
greatest_quotient f d a (suc n) h = omega (arith, greatest_quotient f d (a + 1) n h, ceil_div-le (f a) d (f a) h (le_times (f a) d h))
  where
    le_times : (a d : ℕ) → 0 < d → a ≤ d * a
    le_times a d h = omega (arith, mul-le 1 a d a h (le_refl a))

-- the greatest of a plan's magnitudes is at most that of the sums that they are made of
pub greatest_plan_le : (m : Machine) (c : Numbers) → greatest_of (plan_magnitudes c) ≤ greatest_for m c
greatest_plan_le m c = within m (greatest_quotient (entry_absolute_sum c) (2 ^ (c.fraction_bits + c.step_exponent)) 0 (length c.offsets) (pow_pos (c.fraction_bits + c.step_exponent)))
  where
    within : (m : Machine) → greatest_of (plan_magnitudes c) ≤ greatest_entry_sum c → greatest_of (plan_magnitudes c) ≤ greatest_for m c
    within Plain h = omega (arith, greatest-parts c, h)
    within Accelerated h = omega (arith, fast-parts c, h)
