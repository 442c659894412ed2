-- Sums of enclosures up to an index.
use Rattle.std.proofs.Common.{◌≡◌, ℕ, ◌+◌, ◌-◌, ◌*◌, ◌^◌, ◌<◌, ◌≤◌, ℤ, pos, negsuc, ◌*ℤ◌, ◌≤ℤ◌, List, length, get_or, Option, None, IsSome, ◌↔◌, unsigned_abs, arith, ap, ap₂, ◌∙◌}
use Rattle.std.proofs.lemmas.Int.{ints, unsigned_abs-mul}
use Rattle.std.proofs.lemmas.List.{get_or-map}
use Rattle.integer_algebra.specs.Bounds.{absolute}
use Rattle.integer_algebra.specs.Sizes.{amount}
use Rattle.integer_algebra.proofs.SumLaws.{total_more, total_same}
use Rattle.integer_algebra.proofs.SizeLaws.{amount_next, total_amount}
use Rattle.frac_scaled.specs.Enclosures.{Enclosure, sum_of, multiple}
use Rattle.mat_int.specs.Enclosures.{combination, combination_magnitude}
use Rattle.enclosure.specs.declared.types.Enc.{Enc}
use Rattle.enclosure.specs.Values.{pair, pair_at}
use Rattle.enclosure.proofs.RoomLaws.{same_pair, reach_is, refused}

-- ---- multiples
-- what a multiple reaches
pub multiple_reach : (c m r : ℤ) → pos 0 ≤ℤ r → unsigned_abs (c *ℤ m) + unsigned_abs (absolute c *ℤ r) ≡ unsigned_abs c * (unsigned_abs m + unsigned_abs r)
multiple_reach c m (pos r) h = omega (arith, unsigned_abs-mul c m)
multiple_reach c m (negsuc r) h = absurd h.le

-- its midpoint is no further
pub multiple_small : (c m r : ℤ) → unsigned_abs (c *ℤ m) ≤ unsigned_abs c * (unsigned_abs m + unsigned_abs r)
multiple_small c m r = omega (arith, unsigned_abs-mul c m)

-- and the rest is its radius
pub multiple_rest : (c m r : ℤ) → pos 0 ≤ℤ r → pos (unsigned_abs c * (unsigned_abs m + unsigned_abs r) - unsigned_abs (c *ℤ m)) ≡ absolute c *ℤ r
multiple_rest c m (pos r) h = ap pos (omega (arith, unsigned_abs-mul c m))
multiple_rest c m (negsuc r) h = absurd h.le

-- ---- sums
-- the magnitudes of the terms together, as a natural
abbrev pub combination_size : ℕ → (ℕ → ℤ) → (ℕ → Enclosure) → ℕ
combination_size n c x = amount n (λ i. unsigned_abs (c i) * (unsigned_abs (x i).mid + unsigned_abs (x i).rad))

-- one term more
pub combination_more : (n : ℕ) (c : ℕ → ℤ) (x : ℕ → Enclosure) → combination (n + 1) c x ≡ sum_of (combination n c x) (multiple (c n) (x n))
combination_more n c x = same_pair (total_more n (λ i. c i *ℤ (x i).mid)) (total_more n (λ i. absolute (c i) *ℤ (x i).rad))

-- the natural is the integer, where no radius is negative
pub combination_reach_is : (n : ℕ) (c : ℕ → ℤ) (x : ℕ → Enclosure) → ((i : ℕ) → i < n → pos 0 ≤ℤ (x i).rad) → combination_magnitude n c x ≡ pos (combination_size n c x)
combination_reach_is n c x h =
    total_same n _ _ (λ i l. ap (λ (z : ℤ). absolute (c i) *ℤ z) (reach_is (x i).mid (x i).rad (h i l))) ∙
    total_amount n (λ i. unsigned_abs (c i) * (unsigned_abs (x i).mid + unsigned_abs (x i).rad))

-- ---- lists of enclosures
-- the pair of an element
pub pair_at_is : (xs : List Enc) (i : ℕ) (d : Enc) → i < length xs → pair_at xs i ≡ pair (get_or xs i d)
pair_at_is xs i d h = get_or-map pair xs i d _ h

-- no radius is negative
pub radius_nonneg : (xs : List Enc) (i : ℕ) → i < length xs → pos 0 ≤ℤ (pair_at xs i).rad
radius_nonneg xs i h =
    let d : Enc = record { mid = pos 0; rad = pos 0; nonnegative = omega (arith, ints) } in
    rw (pair_at_is xs i d h) (get_or xs i d).nonnegative

-- ---- steps of a loop
-- what a term's failing tells of the whole, where f sums up the magnitudes of the terms
pub step_refused : {T : Type 0} (o : Option T) (n i m : ℕ) (f : ℕ → ℕ) (z : ℤ) → o ≡ None → z ≡ pos (amount n f) → i < n → m ≤ amount i f + f i →
    ¬ (m ≤ 2 ^ 126) → IsSome o ↔ (z ≤ℤ pos (2 ^ 126))
step_refused o n i m f z e is l h k = refused o (amount n f) z e is (λ j. k (omega (arith, amount_next i n f l, h, j)))

-- a term that is told by its numbers
pub term_reach : (e x : Enclosure) (c : ℤ) → pos 0 ≤ℤ x.rad → e ≡ multiple c x → unsigned_abs e.mid + unsigned_abs e.rad ≡ unsigned_abs c * (unsigned_abs x.mid + unsigned_abs x.rad)
term_reach e x c h is =
    ap₂ (λ (a b : ℤ). unsigned_abs a + unsigned_abs b) (ap (λ (y : Enclosure). y.mid) is) (ap (λ (y : Enclosure). y.rad) is) ∙ multiple_reach c x.mid x.rad h
