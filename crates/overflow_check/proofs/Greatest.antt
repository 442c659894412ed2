-- The greatest number of a list, and sums up to an index.
use Rattle.std.proofs.Common.{◌≡◌, ℕ, zero, suc, ◌+◌, ◌*◌, ◌^◌, ◌<◌, ◌≤◌, max, ℤ, pos, List, [], ◌∷◌, ◌++◌, length, take, get_or, map, unsigned_abs, refl, arith, add-one, zero-add}
use Rattle.std.specs.List.{range_with_len}
use Rattle.std.proofs.lemmas.List.FromFn.{map-range_with_len_more}
use Rattle.qp_model.specs.machine.Controller.{Numbers}
use Rattle.qp_model.specs.machine.AbsoluteSums.{weighted_abs_sum, state_magnitudes, entry_absolute_sum, row_absolute_sum, next_magnitude, sum_magnitude, greatest_of, greatest_sum}
use Rattle.qp_model.proofs.AbsoluteLaws.{le_times_pow}
use Rattle.overflow_check.specs.FastController.{moved_magnitude, reached_magnitude, fast_sum_magnitude, greatest_fast_sum}

-- ---- sums up to an index
pub weighted_abs_sum-take_suc : (xs : List ℤ) (ys : List ℕ) (i : ℕ) → i < length xs → i < length ys →
    weighted_abs_sum (take (suc i) xs) (take (suc i) ys) ≡ weighted_abs_sum (take i xs) (take i ys) + unsigned_abs (get_or xs i (pos 0)) * get_or ys i 0
weighted_abs_sum-take_suc [] ys i p q = absurd (omega arith)
weighted_abs_sum-take_suc (x ∷ xs) [] i p q = absurd (omega arith)
weighted_abs_sum-take_suc (x ∷ xs) (y ∷ ys) zero p q = omega arith
weighted_abs_sum-take_suc (x ∷ xs) (y ∷ ys) (suc i) p q =
    let again = weighted_abs_sum-take_suc xs ys i (omega arith) (omega arith) in omega (arith, again)

pub weighted_abs_sum-take_more : (xs : List ℤ) (ys : List ℕ) (i : ℕ) → i < length xs → i < length ys → weighted_abs_sum (take (i + 1) xs) (take (i + 1) ys) ≡ weighted_abs_sum (take i xs) (take i ys) +
    unsigned_abs (get_or xs i (pos 0)) * get_or ys i 0
weighted_abs_sum-take_more xs ys i p q = rw add-one (weighted_abs_sum-take_suc xs ys i p q)

weighted_abs_sum-take_le : (xs : List ℤ) (ys : List ℕ) (i : ℕ) → weighted_abs_sum (take i xs) (take i ys) ≤ weighted_abs_sum xs ys
weighted_abs_sum-take_le xs ys zero = omega arith
weighted_abs_sum-take_le [] ys (suc i) = omega arith
weighted_abs_sum-take_le (x ∷ xs) [] (suc i) = omega arith
weighted_abs_sum-take_le (x ∷ xs) (y ∷ ys) (suc i) = omega (arith, weighted_abs_sum-take_le xs ys i)

-- the sum so far and the next product are within the whole sum
pub reach_sum_more_le : (xs : List ℤ) (ys : List ℕ) (i : ℕ) → i < length xs → i < length ys → weighted_abs_sum (take i xs) (take i ys) + unsigned_abs (get_or xs i (pos 0)) * get_or ys i 0 ≤ weighted_abs_sum xs ys
reach_sum_more_le xs ys i p q = omega (arith, weighted_abs_sum-take_suc xs ys i p q, weighted_abs_sum-take_le xs ys (suc i))

pub ruleset sum_steps = (weighted_abs_sum-take_more, reach_sum_more_le)

-- ---- the parts of a plan entry's sum
pub offset_le : (own offset dual f s : ℕ) → offset * 2 ^ f ≤ (own + offset * 2 ^ f) * 2 ^ s + dual
offset_le own offset dual f s = omega (arith, le_times_pow (own + offset * 2 ^ f) s)

pub own_le : (own offset dual f s : ℕ) → own + offset * 2 ^ f ≤ (own + offset * 2 ^ f) * 2 ^ s + dual
own_le own offset dual f s = omega (arith, le_times_pow (own + offset * 2 ^ f) s)

pub ruleset entry_parts = (offset_le, own_le)

-- ---- the parts of a row's sum
pub bound_le : (planned own bound f : ℕ) → bound * 2 ^ f ≤ planned + own + bound * 2 ^ f
bound_le planned own bound f = omega arith

pub ruleset row_parts = (bound_le)

-- ---- the greatest number
pub greatest-append : (xs ys : List ℕ) → greatest_of (xs ++ ys) ≡ max (greatest_of xs) (greatest_of ys)
greatest-append [] ys = omega arith
greatest-append (x ∷ xs) ys = omega (arith, greatest-append xs ys)

pub greatest-map_more : (f : ℕ → ℕ) (k : ℕ) → greatest_of (map f (range_with_len 0 (k + 1))) ≡ max (greatest_of (map f (range_with_len 0 k))) (f k)
greatest-map_more f k = rw (map-range_with_len_more f 0 k k (zero-add k), greatest-append) (omega arith)

-- the greatest of more is not less
pub greatest_mono : (f g : ℕ → ℕ) (n : ℕ) → ((i : ℕ) → i < n → f i ≤ g i) → greatest_of (map f (range_with_len 0 n)) ≤ greatest_of (map g (range_with_len 0 n))
greatest_mono f g zero h = omega arith
greatest_mono f g (suc n) h = omega (arith, last f n, last g n, greatest_mono f g n (λ i l. h i (omega arith)), h n (omega arith))
  where
    last : (f : ℕ → ℕ) (n : ℕ) → greatest_of (map f (range_with_len 0 (suc n))) ≡ max (greatest_of (map f (range_with_len 0 n))) (f n)
    last f n = rw add-one at (greatest-map_more f n)

le-greatest_from : (f : ℕ → ℕ) (a n i : ℕ) → i < n → f (a + i) ≤ greatest_of (map f (range_with_len a n))
le-greatest_from f a zero i h = absurd (omega arith)
le-greatest_from f a (suc n) zero h = let e : a + 0 ≡ a = omega arith in rw e (omega arith)
le-greatest_from f a (suc n) (suc i) h =
    let e : a + suc i ≡ a + 1 + i = omega arith in rw e (omega (arith, le-greatest_from f (a + 1) n i (omega arith)))

-- a number made by index is at most the greatest
pub le-greatest : (f : ℕ → ℕ) (n i : ℕ) → i < n → f i ≤ greatest_of (map f (range_with_len 0 n))
le-greatest f n i h = rw zero-add at (le-greatest_from f 0 n i h)

pub greatest-take_suc : (xs : List ℕ) (i : ℕ) → i < length xs → greatest_of (take (suc i) xs) ≡ max (greatest_of (take i xs)) (get_or xs i 0)
greatest-take_suc [] i h = absurd (omega arith)
greatest-take_suc (x ∷ xs) zero h = omega arith
greatest-take_suc (x ∷ xs) (suc i) h = let again = greatest-take_suc xs i (omega arith) in omega (arith, again)

pub greatest-take_more : (xs : List ℕ) (i : ℕ) → i < length xs → greatest_of (take (i + 1) xs) ≡ max (greatest_of (take i xs)) (get_or xs i 0)
greatest-take_more xs i h = rw add-one (greatest-take_suc xs i h)

pub ruleset greatest_steps = (greatest-map_more, le-greatest, greatest-take_more)

pub greatest-parts : (c : Numbers) → greatest_sum c ≡
    max (max (max (max (greatest_of (state_magnitudes c)) (greatest_of (map (entry_absolute_sum c) (range_with_len 0 (length c.offsets)))))
    (greatest_of (map (row_absolute_sum c) (range_with_len 0 (length c.bounds))))) (greatest_of (map (next_magnitude c) (range_with_len 0 (length c.bounds)))))
    (greatest_of (map (sum_magnitude c) (range_with_len 0 (length c.offsets))))
greatest-parts c = rw (greatest-append, greatest-append, greatest-append, greatest-append) refl

pub fast-parts : (c : Numbers) → greatest_fast_sum c ≡
    max (max (max (max (max (reached_magnitude c) (greatest_of (state_magnitudes c))) (greatest_of (map (entry_absolute_sum c) (range_with_len 0 (length c.offsets)))))
    (greatest_of (map (row_absolute_sum c) (range_with_len 0 (length c.bounds))))) (greatest_of (map (moved_magnitude c) (range_with_len 0 (length c.bounds)))))
    (greatest_of (map (fast_sum_magnitude c) (range_with_len 0 (length c.offsets))))
fast-parts c = rw (greatest-append, greatest-append, greatest-append, greatest-append) refl
