-- What the accelerated machine keeps, step by step.
use Rattle.std.proofs.Common.{◌≡◌, ℕ, zero, suc, ◌+◌, ◌*◌, ◌^◌, ◌≤◌, ◌<◌, ℤ, pos, negsuc, ◌+ℤ◌, ◌*ℤ◌, ◌≤ℤ◌, List, length, map, get_or, unsigned_abs, arith, refl, le_refl, ap, add-one, ◌∙◌, inl, inr}
use Rattle.std.specs.List.{range_with_len}
use Rattle.std.specs.Int.{int_max, int_min}
use Rattle.std.proofs.lemmas.Int.{ints, clamps, unsigned_abs-mul}
use Rattle.std.proofs.lemmas.Nat.{pow_pos, mul-le}
use Rattle.std.proofs.Math.Nat.{le-div_iff_mul-le}
use Rattle.std.proofs.lemmas.Bool.{cases_lt}
use Rattle.std.proofs.lemmas.List.{get_or_past, length-replicate}
use Rattle.std.proofs.lemmas.List.FromFn.{length-map-range_with_len, get_or-map-range_with_len}
use Rattle.integer_algebra.specs.Division.{floor_of}
use Rattle.integer_algebra.specs.Sums.{at}
use Rattle.integer_algebra.proofs.OrderLaws.{add_nonneg_z, mul_nonneg_z}
use Rattle.mat_int.proofs.Dots.{abs-add_le}
use Rattle.qp_model.specs.machine.Controller.{Numbers}
use Rattle.qp_model.specs.machine.Machine.{IsAdmissible, loaded, lowering_of, top_of, plan_entry, plan_of, row_sum}
use Rattle.qp_model.specs.machine.AbsoluteSums.{state_magnitudes, clamp_magnitudes, plan_magnitudes}
use Rattle.qp_model.specs.machine.Within.{AreWithin}
use Rattle.qp_model.proofs.AbsoluteLaws.{abs-floor_le, abs-clamped_le, floor_nonneg, floor-times_le}
use Rattle.qp_model.proofs.MagnitudeLaws.{AreUpToTops, zeros_at, raised_within, plan_within, state_within}
use Rattle.overflow_check.specs.FastMachine.{FastIterate, step_weight, all_weights, mean_divisor, fast_start, fast_top, mean_at, means_of, moved_multiplier, moved_multipliers, added_times, fast_step, fast_after}
use Rattle.overflow_check.specs.FastController.{IsFastController}
use Rattle.fast_machine.specs.FastReady.{LiesUpTo, AreFastMultipliers, IsFastReady, FastReadyLaw}
use Rattle.fast_machine.proofs.WeightSums.{more_weights, divisor_twice}

-- ---- numbers between 0 and a bound
abs_times : (a : ℕ) (x : ℤ) (b : ℕ) → unsigned_abs x ≤ b → unsigned_abs (pos a *ℤ x) ≤ a * b
abs_times a x b h = omega (arith, unsigned_abs-mul (pos a) x, mul-le a (unsigned_abs x) a b (le_refl a) h)

-- a sum with so many times a number added
pub abs_added : (x y : ℤ) (b a t u : ℕ) → unsigned_abs x ≤ b * t → unsigned_abs y ≤ t → u ≡ b + a → unsigned_abs (x +ℤ pos a *ℤ y) ≤ u * t
abs_added x y b a t u h l e = rw e (omega (arith, abs-add_le x (pos a *ℤ y), abs_times a y t l, h))

pub added_up : (x y : ℤ) (b a t u : ℕ) → LiesUpTo (b * t) x → LiesUpTo t y → u ≡ b + a → LiesUpTo (u * t) (x +ℤ pos a *ℤ y)
added_up x y b a t u h l e = record { low = add_nonneg_z h.low (mul_nonneg_z (pos a) y (omega (arith, ints)) l.low); high = abs_added x y b a t u h.high l.high e }

clamp_low : (top x : ℤ) → pos 0 ≤ℤ top → pos 0 ≤ℤ int_min top (int_max x (pos 0))
clamp_low top x h = omega (arith, ints, clamps, h)

pub kept_up : (top x : ℤ) → pos 0 ≤ℤ top → LiesUpTo (unsigned_abs top) (int_min top (int_max x (pos 0)))
kept_up top x h = record { low = clamp_low top x h; high = abs-clamped_le top x h }

-- ---- the greatest multiplier of a row
twice_nonneg : (x : ℤ) → pos 0 ≤ℤ x → pos 0 ≤ℤ (pos 2 *ℤ x)
twice_nonneg x h = mul_nonneg_z (pos 2) x (omega (arith, ints)) h

pub top_low : (c : Numbers) (i : ℕ) → pos 0 ≤ℤ c.clamp → pos 0 ≤ℤ fast_top c i
top_low c i h = floor_nonneg (pos 2 *ℤ c.clamp) (2 ^ lowering_of c i) (twice_nonneg c.clamp h)

pub twice_abs : (x : ℤ) → unsigned_abs (pos 2 *ℤ x) ≡ 2 * unsigned_abs x
twice_abs x = unsigned_abs-mul (pos 2) x

pub top_le : (c : Numbers) (i : ℕ) → unsigned_abs (fast_top c i) ≤ 2 * unsigned_abs c.clamp
top_le c i = omega (arith, abs-floor_le (pos 2 *ℤ c.clamp) (2 ^ lowering_of c i), twice_abs c.clamp)

top_times_le : (c : Numbers) (i : ℕ) → pos 0 ≤ℤ c.clamp → unsigned_abs (fast_top c i) * 2 ^ lowering_of c i ≤ 2 * unsigned_abs c.clamp
top_times_le c i h = omega (arith, floor-times_le (pos 2 *ℤ c.clamp) (2 ^ lowering_of c i) (twice_nonneg c.clamp h), twice_abs c.clamp)

-- ---- means
-- where w b is at most a t, with b twice a, w is at most half of t
halved : (w b a t n : ℕ) → b ≡ 2 * a → 0 < a → w * b ≤ n → n ≤ a * t → 2 * w ≤ t
halved w b a t n e h l m = cancel (2 * w) t a h (twice w b a t n e l m)
  where
    twice : (w b a t n : ℕ) → b ≡ 2 * a → w * b ≤ n → n ≤ a * t → a * (2 * w) ≤ a * t
    twice w b a t n e l m = omega (arith, rw e at l, m)

    cancel : (x y a : ℕ) → 0 < a → a * x ≤ a * y → x ≤ y
    cancel x y a h l = elim (cases_lt y x) [
      | inl lt ↦ absurd (omega (arith, mul-le a (y + 1) a x (le_refl a) (omega (arith, lt)), l, h))
      | inr le ↦ le
    ]

-- a mean is at most half the greatest multiplier
mean_half : (z : ℤ) (b a t : ℕ) → b ≡ 2 * a → 0 < a → LiesUpTo (a * t) z → 2 * unsigned_abs (floor_of z b) ≤ t
mean_half z b a t e h l = halved (unsigned_abs (floor_of z b)) b a t (unsigned_abs z) e h (floor-times_le z b l.low) l.high

-- and at most the clamp, lowered
under_quotient : (w t d n : ℕ) → 2 * w ≤ t → t * d ≤ 2 * n → w * d ≤ n
under_quotient w t d n h l = omega (arith, mul-le (2 * w) d t d h (le_refl d), l)

lowered_half : (w t d : ℕ) (c : ℤ) → 0 < d → pos 0 ≤ℤ c → 2 * w ≤ t → t * d ≤ 2 * unsigned_abs c → w ≤ unsigned_abs (floor_of c d)
lowered_half w t d (pos n) p h l m = (le-div_iff_mul-le p).1 (under_quotient w t d n l m)
lowered_half w t d (negsuc n) p h l m = absurd (omega (arith, ints, h))

-- what a mean is the quotient of
pub mean_up : (c : Numbers) (k : ℕ) (multipliers reached : List ℤ) (i : ℕ) → AreFastMultipliers c k multipliers reached → i < length c.bounds →
    LiesUpTo (all_weights (suc k) * unsigned_abs (fast_top c i)) (at reached i +ℤ pos (step_weight k) *ℤ at multipliers i)
mean_up c k multipliers reached i r lt =
    added_up (at reached i) (at multipliers i) (all_weights k) (step_weight k) (unsigned_abs (fast_top c i)) (all_weights (suc k)) (r.summed i lt) (r.own i lt) (more_weights k)

some_weight : (k : ℕ) → 0 < all_weights (suc k)
some_weight k = omega (arith, more_weights k)

pub mean_le : (c : Numbers) (k : ℕ) (multipliers reached : List ℤ) (i : ℕ) → pos 0 ≤ℤ c.clamp → AreFastMultipliers c k multipliers reached → i < length c.bounds →
    unsigned_abs (mean_at k multipliers reached i) ≤ unsigned_abs (top_of c i)
mean_le c k multipliers reached i h r lt =
    let t = unsigned_abs (fast_top c i) in
    lowered_half (unsigned_abs (mean_at k multipliers reached i)) t (2 ^ lowering_of c i) c.clamp (pow_pos (lowering_of c i)) h
    (mean_half (at reached i +ℤ pos (step_weight k) *ℤ at multipliers i) (mean_divisor k) (all_weights (suc k)) t (divisor_twice k) (some_weight k) (mean_up c k multipliers reached i r lt))
    (top_times_le c i h)

-- a mean, raised
pub mean_item : (c : Numbers) (k : ℕ) (multipliers reached : List ℤ) (i : ℕ) → i < length c.bounds →
    at (means_of c k multipliers reached) i ≡ mean_at k multipliers reached i *ℤ pos (2 ^ lowering_of c i)
mean_item c k multipliers reached i lt =
    let means = map (mean_at k multipliers reached) (range_with_len 0 (length c.bounds)) in
    get_or-map-range_with_len (λ i. at means i *ℤ pos (2 ^ lowering_of c i)) 0 (length c.bounds) i i (pos 0) lt (omega arith) ∙
    ap (λ (z : ℤ). z *ℤ pos (2 ^ lowering_of c i)) (get_or-map-range_with_len (mean_at k multipliers reached) 0 (length c.bounds) i i (pos 0) lt (omega arith))

means_tops : (c : Numbers) (k : ℕ) (multipliers reached : List ℤ) → pos 0 ≤ℤ c.clamp → AreFastMultipliers c k multipliers reached →
    AreUpToTops c (map (mean_at k multipliers reached) (range_with_len 0 (length c.bounds)))
means_tops c k multipliers reached h r = record {
  each = λ i. elim (cases_lt i (length c.bounds)) [
    | inl lt ↦ rw (get_or-map-range_with_len (mean_at k multipliers reached) 0 (length c.bounds) i i (pos 0) lt (omega arith)) (mean_le c k multipliers reached i h r lt)
    | inr le ↦ rw (get_or_past (map (mean_at k multipliers reached) (range_with_len 0 (length c.bounds))) i (pos 0)
        (omega (arith, length-map-range_with_len (mean_at k multipliers reached) 0 (length c.bounds), le))) (omega arith)
  ];
}

-- raised, the means are at most the clamp
pub means_within : (c : Numbers) (k : ℕ) (multipliers reached : List ℤ) → pos 0 ≤ℤ c.clamp → AreFastMultipliers c k multipliers reached →
    AreWithin (means_of c k multipliers reached) (clamp_magnitudes c)
means_within c k multipliers reached h r = raised_within c (map (mean_at k multipliers reached) (range_with_len 0 (length c.bounds))) h (means_tops c k multipliers reached h r)

pub made_plan_within : (c : Numbers) (state : List ℤ) (k : ℕ) (made : FastIterate) → pos 0 ≤ℤ c.clamp → AreWithin state (state_magnitudes c) → IsFastReady c k made →
    AreWithin (fast_step c state k made).plan (plan_magnitudes c)
made_plan_within c state k made h w r = plan_within c state (means_of c k made.multipliers made.reached) w (means_within c k made.multipliers made.reached h r.rows)

-- ---- items of the lists that a step makes
pub moved_item : (c : Numbers) (state plan : List ℤ) (weight : ℕ) (multipliers : List ℤ) (i : ℕ) → i < length c.bounds →
    at (moved_multipliers c state plan weight multipliers) i ≡ moved_multiplier c state plan weight (at multipliers i) i
moved_item c state plan weight multipliers i lt =
    get_or-map-range_with_len (λ i. moved_multiplier c state plan weight (at multipliers i) i) 0 (length c.bounds) i i (pos 0) lt (omega arith)

pub moved_long : (c : Numbers) (state plan : List ℤ) (weight : ℕ) (multipliers : List ℤ) → length (moved_multipliers c state plan weight multipliers) ≡ length c.bounds
moved_long c state plan weight multipliers = length-map-range_with_len (λ i. moved_multiplier c state plan weight (at multipliers i) i) 0 (length c.bounds)

pub added_item : (weight : ℕ) (sums numbers : List ℤ) (i : ℕ) → i < length numbers → at (added_times weight sums numbers) i ≡ at sums i +ℤ pos weight *ℤ at numbers i
added_item weight sums numbers i lt = get_or-map-range_with_len (λ j. at sums j +ℤ pos weight *ℤ at numbers j) 0 (length numbers) i i (pos 0) lt (omega arith)

pub added_long : (weight : ℕ) (sums numbers : List ℤ) → length (added_times weight sums numbers) ≡ length numbers
added_long weight sums numbers = length-map-range_with_len (λ j. at sums j +ℤ pos weight *ℤ at numbers j) 0 (length numbers)

pub means_long : (c : Numbers) (k : ℕ) (multipliers reached : List ℤ) → length (means_of c k multipliers reached) ≡ length c.bounds
means_long c k multipliers reached =
    let means = map (mean_at k multipliers reached) (range_with_len 0 (length c.bounds)) in
    length-map-range_with_len (λ i. at means i *ℤ pos (2 ^ lowering_of c i)) 0 (length c.bounds)

plan_long : (c : Numbers) (state means : List ℤ) → length (plan_of c state means) ≡ length c.offsets
plan_long c state means = length-map-range_with_len (plan_entry c state means) 0 (length c.offsets)

-- ---- one step
pub multiplier_kept : (c : Numbers) (state plan : List ℤ) (weight : ℕ) (multipliers : List ℤ) (i : ℕ) → pos 0 ≤ℤ c.clamp → i < length c.bounds →
    LiesUpTo (unsigned_abs (fast_top c i)) (at (moved_multipliers c state plan weight multipliers) i)
multiplier_kept c state plan weight multipliers i h lt =
    rw (moved_item c state plan weight multipliers i lt)
    (kept_up (fast_top c i) (at multipliers i +ℤ pos weight *ℤ floor_of (row_sum c state plan i) (2 ^ c.fraction_bits)) (top_low c i h))

pub step_kept : (c : Numbers) (state : List ℤ) (k : ℕ) (made : FastIterate) → pos 0 ≤ℤ c.clamp → AreWithin state (state_magnitudes c) → IsFastReady c k made →
    IsFastReady c (suc k) (fast_step c state k made)
step_kept c state k made h w r =
    let means = means_of c k made.multipliers made.reached in
    let plan = plan_of c state means in
    let moved = moved_multipliers c state plan (step_weight k) made.multipliers in
    let within = made_plan_within c state k made h w r in
    let rows = moved_long c state plan (step_weight k) made.multipliers in
    let entries = plan_long c state means in
    record {
      means_long = means_long c k made.multipliers made.reached;
      plan_long = entries;
      rows = record {
        multipliers_long = rows;
        reached_long = added_long (step_weight k) made.reached moved ∙ rows;
        own = λ i lt. multiplier_kept c state plan (step_weight k) made.multipliers i h lt;
        summed = λ i lt. rw (added_item (step_weight k) made.reached moved i (omega (arith, rows, lt)))
            (added_up (at made.reached i) (at moved i) (all_weights k) (step_weight k) (unsigned_abs (fast_top c i)) (all_weights (suc k)) (r.rows.summed i lt)
            (multiplier_kept c state plan (step_weight k) made.multipliers i h lt) (more_weights k));
      };
      entries = record {
        sums_long = added_long (step_weight k) made.sums plan ∙ entries;
        each = λ j lt. rw (added_item (step_weight k) made.sums plan j (omega (arith, entries, lt)))
            (abs_added (at made.sums j) (at plan j) (all_weights k) (step_weight k) (get_or (plan_magnitudes c) j 0) (all_weights (suc k)) (r.entries.each j lt) (within.each j) (more_weights k));
      };
    }

-- ---- runs
starts : (c : Numbers) → IsFastReady c 0 (fast_start c)
starts c = record {
  means_long = length-replicate (length c.bounds) (pos 0);
  plan_long = length-replicate (length c.offsets) (pos 0);
  rows = record {
    multipliers_long = length-replicate (length c.bounds) (pos 0);
    reached_long = length-replicate (length c.bounds) (pos 0);
    own = λ i lt. rw (zeros_at (length c.bounds) i) (record { low = omega (arith, ints); high = omega arith });
    summed = λ i lt. rw (zeros_at (length c.bounds) i) (record { low = omega (arith, ints); high = omega arith });
  };
  entries = record {
    sums_long = length-replicate (length c.offsets) (pos 0);
    each = λ j lt. rw (zeros_at (length c.offsets) j) (omega arith);
  };
}

pub run_kept : (c : Numbers) (state : List ℤ) (k : ℕ) → pos 0 ≤ℤ c.clamp → AreWithin state (state_magnitudes c) → IsFastReady c k (fast_after c state k)
unfolding fast_after
run_kept c state zero h w = starts c
run_kept c state (suc k) h w = step_kept c state k (fast_after c state k) h w (run_kept c state k h w)

pub grid_within : (c : Numbers) (xi : List ℤ) → IsFastController c → IsAdmissible c xi → AreWithin (loaded c xi) (state_magnitudes c)
grid_within c xi sound grid = state_within c xi sound.form.sized.rest.shaped.low sound.form.sized.rest.shaped.high grid

pub ready_law : FastReadyLaw
ready_law c xi sound grid k = run_kept c (loaded c xi) k sound.form.sized.rest.clamp_low (grid_within c xi sound grid)

pub fast_after_suc : (c : Numbers) (state : List ℤ) (k : ℕ) → fast_after c state (k + 1) ≡ fast_step c state k (fast_after c state k)
unfolding fast_after
fast_after_suc c state k = rw add-one refl

pub fast_after_zero : (c : Numbers) (state : List ℤ) → fast_after c state 0 ≡ fast_start c
unfolding fast_after
fast_after_zero c state = refl
