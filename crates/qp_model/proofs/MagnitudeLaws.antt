-- The state, the multipliers and the plans of the machine stay within their magnitudes.
use Rattle.std.proofs.Common.{◌≡◌, ℕ, zero, suc, ◌+◌, ◌-◌, ◌*◌, ◌^◌, ◌≤◌, ◌<◌, max, ℤ, pos, ◌+ℤ◌, ◌*ℤ◌, ◌≤ℤ◌, List, [], ◌∷◌, length, map, get_or, replicate, unsigned_abs, arith, refl, inl, inr, le_refl, sym, ◌∙◌}
use Rattle.std.specs.List.{range_with_len}
use Rattle.std.proofs.lemmas.Bool.{cases_lt}
use Rattle.std.proofs.lemmas.Int.{ints}
use Rattle.std.proofs.lemmas.Nat.{mul-le, pow_pos}
use Rattle.std.proofs.lemmas.List.{get_or_past, get_or-replicate, length-replicate}
use Rattle.std.proofs.lemmas.List.FromFn.{length-map-range_with_len, get_or-map-range_with_len}
use Rattle.integer_algebra.specs.Division.{floor_of, ceil_div}
use Rattle.integer_algebra.specs.Sums.{at}
use Rattle.mat_int.specs.Row.{list_dot, abs_dot}
use Rattle.mat_int.specs.Matrix.{row_of}
use Rattle.mat_int.proofs.Dots.{abs-dot_le, abs-add_le}
use Rattle.qp_model.specs.machine.Controller.{Numbers}
use Rattle.qp_model.specs.machine.Machine.{IsAdmissible, loaded, lowering_of, raised, top_of, entry_sum, plan_entry, plan_of, row_sum, next_multiplier, next_multipliers, after}
use Rattle.qp_model.specs.machine.AbsoluteSums.{weighted_abs_sum, magnitudes_of, state_magnitudes, clamp_magnitudes, entry_absolute_sum, plan_magnitudes, greatest_of}
use Rattle.qp_model.specs.machine.Within.{AreWithin, PlanMagnitudeLaw}
use Rattle.qp_model.proofs.AbsoluteLaws.{abs-neg, abs-scaled_le, abs-shifted, abs-floor_le, abs-floor_le_ceil, abs-clamped_le, ceil_div_mono, floor_nonneg, floor-times_le}

-- ---- rows against lists within magnitudes
pub abs_dot-magnitudes : (a xs : List ℤ) (magnitudes : List ℕ) → AreWithin xs magnitudes → abs_dot a xs ≤ weighted_abs_sum a magnitudes
abs_dot-magnitudes [] xs magnitudes w = omega arith
abs_dot-magnitudes (x ∷ a) [] magnitudes w = omega arith
abs_dot-magnitudes (x ∷ a) (y ∷ ys) [] w = absurd (omega (arith, w.long))
abs_dot-magnitudes (x ∷ a) (y ∷ ys) (r ∷ rs) w =
    let rest : AreWithin ys rs = record { long = omega (arith, w.long); each = λ k. w.each (suc k) } in
    omega (arith, mul-le (unsigned_abs x) (unsigned_abs y) (unsigned_abs x) r (le_refl (unsigned_abs x)) (w.each 0), abs_dot-magnitudes a ys rs rest)

-- ---- one step
-- the sum of plan entry j, with the multipliers' products one by one
pub entry_parts_le : (c : Numbers) (state multipliers : List ℤ) (j : ℕ) → AreWithin state (state_magnitudes c) → AreWithin multipliers (clamp_magnitudes c) →
    (unsigned_abs (list_dot (row_of c.state_gains j) state) + unsigned_abs (at c.offsets j) * 2 ^ c.fraction_bits) * 2 ^ c.step_exponent + abs_dot (row_of c.dual_gains j) multipliers ≤ entry_absolute_sum c j
entry_parts_le c state multipliers j w v =
    let own : unsigned_abs (list_dot (row_of c.state_gains j) state) ≤ weighted_abs_sum (row_of c.state_gains j) (state_magnitudes c) =
    omega (arith, abs-dot_le (row_of c.state_gains j) state, abs_dot-magnitudes (row_of c.state_gains j) state (state_magnitudes c) w) in
    let t = unsigned_abs (at c.offsets j) * 2 ^ c.fraction_bits in
    omega (
      arith,
      abs_dot-magnitudes (row_of c.dual_gains j) multipliers (clamp_magnitudes c) v,
      mul-le (unsigned_abs (list_dot (row_of c.state_gains j) state) + t) (2 ^ c.step_exponent) (weighted_abs_sum (row_of c.state_gains j) (state_magnitudes c) + t) (2 ^ c.step_exponent) (omega (arith, own)) (le_refl (2 ^ c.step_exponent)),
    )

-- the sum of a plan entry
pub entry_sum_le : (c : Numbers) (state multipliers : List ℤ) (j : ℕ) → AreWithin state (state_magnitudes c) → AreWithin multipliers (clamp_magnitudes c) → unsigned_abs (entry_sum c state multipliers j) ≤ entry_absolute_sum c j
entry_sum_le c state multipliers j w v =
    let scaled = (list_dot (row_of c.state_gains j) state +ℤ at c.offsets j *ℤ pos (2 ^ c.fraction_bits)) *ℤ pos (2 ^ c.step_exponent) in
    omega (
      arith,
      abs-add_le scaled (list_dot (row_of c.dual_gains j) multipliers),
      abs-scaled_le (list_dot (row_of c.state_gains j) state) (at c.offsets j) c.fraction_bits c.step_exponent,
      abs-dot_le (row_of c.dual_gains j) multipliers,
      entry_parts_le c state multipliers j w v,
    )

plan_entry_le : (c : Numbers) (state multipliers : List ℤ) (j : ℕ) → AreWithin state (state_magnitudes c) → AreWithin multipliers (clamp_magnitudes c) →
    unsigned_abs (plan_entry c state multipliers j) ≤ ceil_div (entry_absolute_sum c j) (2 ^ (c.fraction_bits + c.step_exponent))
plan_entry_le c state multipliers j w v =
    let d = 2 ^ (c.fraction_bits + c.step_exponent) in
    let z = entry_sum c state multipliers j in
    omega (
      arith,
      abs-neg (floor_of z d),
      abs-floor_le_ceil z d (pow_pos (c.fraction_bits + c.step_exponent)),
      ceil_div_mono (unsigned_abs z) (entry_absolute_sum c j) d (pow_pos (c.fraction_bits + c.step_exponent)) (entry_sum_le c state multipliers j w v),
    )

-- two lists made by index, one within the other
made_within : (f : ℕ → ℤ) (g : ℕ → ℕ) (n : ℕ) → ((j : ℕ) → j < n → unsigned_abs (f j) ≤ g j) → AreWithin (map f (range_with_len 0 n)) (map g (range_with_len 0 n))
made_within f g n h = record {
  long = omega (arith, length-map-range_with_len f 0 n, length-map-range_with_len g 0 n);
  each = λ k. elim (cases_lt k n) [
    | inl lt ↦ rw (get_or-map-range_with_len f 0 n k k (pos 0) lt (omega arith), get_or-map-range_with_len g 0 n k k 0 lt (omega arith)) (h k lt)
    | inr le ↦ rw (get_or_past (map f (range_with_len 0 n)) k (pos 0) (omega (arith, length-map-range_with_len f 0 n))) (omega arith)
  ];
}

pub plan_within : (c : Numbers) (state multipliers : List ℤ) → AreWithin state (state_magnitudes c) → AreWithin multipliers (clamp_magnitudes c) → AreWithin (plan_of c state multipliers) (plan_magnitudes c)
plan_within c state multipliers w v =
    made_within (plan_entry c state multipliers) (λ j. ceil_div (entry_absolute_sum c j) (2 ^ (c.fraction_bits + c.step_exponent))) (length c.offsets) (λ j h. plan_entry_le c state multipliers j w v)

replicate_within : (f : ℕ → ℤ) (n b : ℕ) → ((j : ℕ) → unsigned_abs (f j) ≤ b) → AreWithin (map f (range_with_len 0 n)) (replicate n b)
replicate_within f n b h = record {
  long = omega (arith, length-map-range_with_len f 0 n, length-replicate n b);
  each = λ k. elim (cases_lt k n) [
    | inl lt ↦ rw (get_or-map-range_with_len f 0 n k k (pos 0) lt (omega arith), get_or-replicate n k b 0 lt) (h k)
    | inr le ↦ rw (get_or_past (map f (range_with_len 0 n)) k (pos 0) (omega (arith, length-map-range_with_len f 0 n))) (omega arith)
  ];
}

-- ---- multipliers, and the same over 2^(fraction_bits + step_exponent)
-- the greatest multiplier of a row is at least 0
pub top_nonneg : (c : Numbers) (i : ℕ) → pos 0 ≤ℤ c.clamp → pos 0 ≤ℤ top_of c i
top_nonneg c i h = floor_nonneg c.clamp (2 ^ lowering_of c i) h

-- each multiplier is at most the greatest of its row
pub record AreUpToTops (c : Numbers) (multipliers : List ℤ) : Type 0 where
  pub each : (i : ℕ) → unsigned_abs (at multipliers i) ≤ unsigned_abs (top_of c i)

pub tops_kept : (c : Numbers) (state plan multipliers : List ℤ) → pos 0 ≤ℤ c.clamp → AreUpToTops c (next_multipliers c state plan multipliers)
tops_kept c state plan multipliers h = record {
  each = λ i. elim (cases_lt i (length c.bounds)) [
    | inl lt ↦ rw (get_or-map-range_with_len (λ i. next_multiplier c state plan (at multipliers i) i) 0 (length c.bounds) i i (pos 0) lt (omega arith))
        (abs-clamped_le (top_of c i) (at multipliers i +ℤ floor_of (row_sum c state plan i) (2 ^ c.fraction_bits)) (top_nonneg c i h))
    | inr le ↦ rw (get_or_past (next_multipliers c state plan multipliers) i (pos 0)
        (omega (arith, length-map-range_with_len (λ i. next_multiplier c state plan (at multipliers i) i) 0 (length c.bounds), le))) (omega arith)
  ];
}

-- raised, and as they are, they are at most the clamp
raised_le : (c : Numbers) (l : ℤ) (i : ℕ) → pos 0 ≤ℤ c.clamp → unsigned_abs l ≤ unsigned_abs (top_of c i) → unsigned_abs (l *ℤ pos (2 ^ lowering_of c i)) ≤ unsigned_abs c.clamp
raised_le c l i h le =
    let power = 2 ^ lowering_of c i in
    rw abs-shifted (omega (arith, mul-le (unsigned_abs l) power (unsigned_abs (top_of c i)) power le (le_refl power), floor-times_le c.clamp power h))

pub raised_within : (c : Numbers) (multipliers : List ℤ) → pos 0 ≤ℤ c.clamp → AreUpToTops c multipliers → AreWithin (raised c multipliers) (clamp_magnitudes c)
raised_within c multipliers h tops =
    replicate_within (λ i. at multipliers i *ℤ pos (2 ^ lowering_of c i)) (length c.bounds) (unsigned_abs c.clamp) (λ j. raised_le c (at multipliers j) j h (tops.each j))

pub top_le_clamp : (c : Numbers) (i : ℕ) → unsigned_abs (top_of c i) ≤ unsigned_abs c.clamp
top_le_clamp c i = abs-floor_le c.clamp (2 ^ lowering_of c i)

-- ---- the state
pub zeros_at : (n i : ℕ) → get_or (replicate n (pos 0)) i (pos 0) ≡ pos 0
zeros_at n i = elim (cases_lt i n) [
  | inl lt ↦ get_or-replicate n i (pos 0) (pos 0) lt
  | inr le ↦ get_or_past (replicate n (pos 0)) i (pos 0) (omega (arith, length-replicate n (pos 0), le))
]

-- a number between two others
between : (low x high : ℤ) → low ≤ℤ x → x ≤ℤ high → unsigned_abs x ≤ max (unsigned_abs low) (unsigned_abs high)
between low x high h l = omega (arith, ints, h, l)

within_box : (k : ℕ) (lows xs highs : List ℤ) → length lows ≡ length xs → length highs ≡ length xs →
    ((i : ℕ) → i < length xs → at lows i ≤ℤ at xs i) → ((i : ℕ) → i < length xs → at xs i ≤ℤ at highs i) →
    AreWithin (map (λ x. x *ℤ pos (2 ^ k)) xs) (magnitudes_of k lows highs)
within_box k [] [] highs e f h l = record { long = refl; each = λ i. omega arith }
within_box k [] (x ∷ xs) highs e f h l = absurd (omega arith)
within_box k (low ∷ lows) [] highs e f h l = absurd (omega arith)
within_box k (low ∷ lows) (x ∷ xs) [] e f h l = absurd (omega arith)
within_box k (low ∷ lows) (x ∷ xs) (high ∷ highs) e f h l =
    let rest = within_box k lows xs highs (omega arith) (omega arith) (λ i q. h (suc i) (omega (arith, q))) (λ i q. l (suc i) (omega (arith, q))) in
    record { long = omega (arith, rest.long); each = within_cons k low x high (map (λ x. x *ℤ pos (2 ^ k)) xs) (magnitudes_of k lows highs) (between low x high (h 0 (omega arith)) (l 0 (omega arith))) rest }
  where
    within_cons : (k : ℕ) (low x high : ℤ) (ys : List ℤ) (rs : List ℕ) → unsigned_abs x ≤ max (unsigned_abs low) (unsigned_abs high) → AreWithin ys rs → (i : ℕ) →
        unsigned_abs (get_or ((x *ℤ pos (2 ^ k)) ∷ ys) i (pos 0)) ≤ get_or (max (unsigned_abs low) (unsigned_abs high) * 2 ^ k ∷ rs) i 0
    within_cons k low x high ys rs b w zero = rw abs-shifted (mul-le (unsigned_abs x) (2 ^ k) (max (unsigned_abs low) (unsigned_abs high)) (2 ^ k) b (le_refl (2 ^ k)))
    within_cons k low x high ys rs b w (suc i) = w.each i

-- a state of the box is within its magnitudes
pub state_within : (c : Numbers) (xi : List ℤ) → length c.low ≡ c.states → length c.high ≡ c.states → IsAdmissible c xi → AreWithin (loaded c xi) (state_magnitudes c)
state_within c xi e f g =
    within_box (c.fraction_bits - c.grid_bits) c.low xi c.high (e ∙ sym g.long) (f ∙ sym g.long)
    (λ i h. (g.each i (rw g.long at h)).low) (λ i h. (g.each i (rw g.long at h)).high)

-- ---- after any number of steps
pub after_tops : (c : Numbers) (state : List ℤ) (k : ℕ) → pos 0 ≤ℤ c.clamp → AreUpToTops c (after c state k).multipliers
unfolding after
after_tops c state zero h = record { each = λ i. rw (zeros_at (length c.bounds) i) (omega arith) }
after_tops c state (suc k) h = tops_kept c state (plan_of c state (raised c (after c state k).multipliers)) (after c state k).multipliers h

pub after_multipliers : (c : Numbers) (state : List ℤ) (k : ℕ) → pos 0 ≤ℤ c.clamp → AreWithin (raised c (after c state k).multipliers) (clamp_magnitudes c)
after_multipliers c state k h = raised_within c (after c state k).multipliers h (after_tops c state k h)

-- ---- the plan of each step
pub plan_magnitude_law : PlanMagnitudeLaw
plan_magnitude_law c xi sized grid k =
    plan_within c (loaded c xi) (raised c (after c (loaded c xi) k).multipliers) (state_within c xi sized.shaped.low sized.shaped.high grid)
    (after_multipliers c (loaded c xi) k sized.clamp_low)

-- ---- the greatest magnitude
-- each number of a list is at most the greatest
pub get_or-le-greatest : (xs : List ℕ) (i : ℕ) → get_or xs i 0 ≤ greatest_of xs
get_or-le-greatest [] i = omega arith
get_or-le-greatest (x ∷ xs) zero = omega arith
get_or-le-greatest (x ∷ xs) (suc i) = omega (arith, get_or-le-greatest xs i)
