-- What code makes of matrices with radii.
use Rattle.std.proofs.Common.{◌≡◌, ◌≢◌, ◌⊎◌, inl, inr, ℕ, zero, suc, ◌+◌, ◌*◌, ◌<◌, ◌≤◌, ◌^◌, ℤ, pos, ◌+ℤ◌, ◌-ℤ◌, ◌*ℤ◌, ◌≤ℤ◌, ◌<ℤ◌, unsigned_abs, nat_eq, Bool, true, false, if◌then◌else◌, to_z, of_z, FitsSigned, lit<, arith, ap, ap₂, sym, ◌∙◌, refl}
use Rattle.std.specs.Int.{w128}
use Rattle.std.proofs.lemmas.Int.{ints, fits_signed_from_abs, to_z_pos, to_z-of_z, unsigned_abs-mul}
use Rattle.std.proofs.lemmas.Bool.{cases_eq}
use Rattle.std.proofs.lemmas.Bool.Decides.{eqb_tells}
use Rattle.integer_algebra.specs.Bounds.{absolute}
use Rattle.integer_algebra.specs.Division.{ceil_of, round_of}
use Rattle.integer_algebra.specs.Sizes.{amount, size}
use Rattle.integer_algebra.proofs.AmountLaws.{amount_mono, amount_none}
use Rattle.integer_algebra.proofs.OrderLaws.{mul_nonneg_z}
use Rattle.integer_algebra.proofs.DivisionLaws.{ceil_of_is, round_of_bounds}
use Rattle.integer_algebra.proofs.SizeLaws.{at_size}
use Rattle.integer_algebra.proofs.SumLaws.{total_same}
use Rattle.frac_scaled.specs.Enclosures.{Enclosure, divided, inexact, whole_product}
use Rattle.mat_int.specs.Enclosures.{gram_sum, weighted_gram}
use Rattle.enclosure.proofs.GramLaws.{product_nonneg, product_reach}
use Rattle.enclosure.proofs.RoomLaws.{inexact_small, same_pair}
use Rattle.hessian_check.specs.Curvature.{lowered, raised_diagonal}
use Rattle.hessian_check.specs.Held.{moved, moved_diagonal}

-- ---- a diagonal that is moved
pub moved_own : (up : Bool) (m : ℕ → ℕ → ℤ) (by : ℕ → ℕ) (i : ℕ) → moved_diagonal up m by i i ≡ moved up (m i i) (by i)
moved_own true m by i = elim (eqb_tells i i) [ inl e ↦ rw e.0 refl | inr e ↦ absurd (e.1 refl) ]
moved_own false m by i = elim (eqb_tells i i) [ inl e ↦ rw e.0 refl | inr e ↦ absurd (e.1 refl) ]

pub moved_beside : (up : Bool) (m : ℕ → ℕ → ℤ) (by : ℕ → ℕ) (i j : ℕ) → j ≢ i → m i j ≡ moved_diagonal up m by i j
moved_beside true m by i j h = elim (eqb_tells j i) [ inl e ↦ absurd (h e.1) | inr e ↦ rw e.0 (plain (m i j)) ]
  where
    plain : (x : ℤ) → x ≡ x +ℤ pos 0
    plain x = omega (arith, ints)
moved_beside false m by i j h = elim (eqb_tells j i) [ inl e ↦ absurd (h e.1) | inr e ↦ rw e.0 (plain (m i j)) ]
  where
    plain : (x : ℤ) → x ≡ x -ℤ pos 0
    plain x = omega (arith, ints)

pub lowered_same : (m w : ℕ → ℕ → ℤ) (a b : ℕ → ℕ) (i j : ℕ) → m i j ≡ w i j → a i ≡ b i → lowered m a i j ≡ lowered w b i j
lowered_same m w a b i j e g = rw (e, g) refl

pub raised_same : (m w : ℕ → ℕ → ℤ) (a b : ℕ → ℕ) (i j : ℕ) → m i j ≡ w i j → a i ≡ b i → raised_diagonal m a i j ≡ raised_diagonal w b i j
raised_same m w a b i j e g = rw (e, g) refl

-- nothing is added
pub raised_none : (m : ℕ → ℕ → ℤ) (by : ℕ → ℕ) (i j : ℕ) → by i ≡ 0 → raised_diagonal m by i j ≡ m i j
raised_none m by i j e = rw e (none (nat_eq j i) (m i j))
  where
    none : (b : Bool) (x : ℤ) → x +ℤ (if b then pos 0 else pos 0) ≡ x
    none true x = omega (arith, ints)
    none false x = omega (arith, ints)

-- what code computes of a diagonal entry
module _ (x : ℤ) (n : ℕ) (h : unsigned_abs x + n < 2 ^ 127) where
  own_is : to_z w128 (of_z w128 x) ≡ x
  own_is = to_z-of_z w128 x (fits_signed_from_abs w128 x (omega (arith, h)))

  by_is : to_z w128 n ≡ pos n
  by_is = to_z_pos w128 n (omega (arith, h))

  raised_near : unsigned_abs (x +ℤ pos n) < 2 ^ 127
  raised_near = omega (arith, ints, h)

  lowered_near : unsigned_abs (x -ℤ pos n) < 2 ^ 127
  lowered_near = omega (arith, ints, h)

  pub raised_fits : FitsSigned w128 (to_z w128 (of_z w128 x) +ℤ to_z w128 n)
  raised_fits = rw (own_is, by_is) (fits_signed_from_abs w128 _ raised_near)

  pub lowered_fits : FitsSigned w128 (to_z w128 (of_z w128 x) -ℤ to_z w128 n)
  lowered_fits = rw (own_is, by_is) (fits_signed_from_abs w128 _ lowered_near)

  pub raised_is : to_z w128 (of_z w128 (to_z w128 (of_z w128 x) +ℤ to_z w128 n)) ≡ x +ℤ pos n
  raised_is = rw (own_is, by_is) (to_z-of_z w128 _ (fits_signed_from_abs w128 _ raised_near))

  pub lowered_is : to_z w128 (of_z w128 (to_z w128 (of_z w128 x) -ℤ to_z w128 n)) ≡ x -ℤ pos n
  lowered_is = rw (own_is, by_is) (to_z-of_z w128 _ (fits_signed_from_abs w128 _ lowered_near))

-- ---- how far a row reaches
single_le : (n i b : ℕ) → amount n (λ j. if nat_eq j i then b else 0) ≤ b
single_le zero i b = omega arith
single_le (suc n) i b = elim (eqb_tells n i) [
  | inl e ↦ rw e.0 (let t = before n (omega (arith, e.1)) in omega (arith, t))
  | inr e ↦ rw e.0 (omega (arith, single_le n i b))
]
  where
    before : (k : ℕ) → k ≤ i → amount k (λ j. if nat_eq j i then b else 0) ≡ 0
    before k l = amount_none k _ (λ j m. elim (eqb_tells j i) [ inl e ↦ absurd (omega (arith, e.1, l, m)) | inr e ↦ rw e.0 refl ])

pub amount_add : (n : ℕ) (f g : ℕ → ℕ) → amount n (λ j. f j + g j) ≡ amount n f + amount n g
amount_add zero f g = omega arith
amount_add (suc n) f g = omega (arith, amount_add n f g)

-- a moved row, by the row and what its diagonal entry moves by
module _ (n : ℕ) (m w : ℕ → ℕ → ℤ) (by : ℕ → ℕ) (i : ℕ) where
  moved_size : ((j : ℕ) → unsigned_abs (w i j) ≤ unsigned_abs (m i j) + (if nat_eq j i then by i else 0)) → size n (w i) ≤ size n (m i) + by i
  moved_size h =
      let a = amount_mono n (λ j. unsigned_abs (w i j)) (λ j. unsigned_abs (m i j) + (if nat_eq j i then by i else 0)) (λ j l. h j) in
      let b = amount_add n (λ j. unsigned_abs (m i j)) (λ j. if nat_eq j i then by i else 0) in
      omega (arith, a, b, single_le n i (by i))

pub lowered_size : (n : ℕ) (m : ℕ → ℕ → ℤ) (by : ℕ → ℕ) (i : ℕ) → size n (lowered m by i) ≤ size n (m i) + by i
lowered_size n m by i = moved_size n m (lowered m by) by i (λ j. one (nat_eq j i) (m i j) (by i))
  where
    one : (b : Bool) (x : ℤ) (a : ℕ) → unsigned_abs (x -ℤ (if b then pos a else pos 0)) ≤ unsigned_abs x + (if b then a else 0)
    one true x a = omega (arith, ints)
    one false x a = omega (arith, ints)

pub raised_size : (n : ℕ) (m : ℕ → ℕ → ℤ) (by : ℕ → ℕ) (i : ℕ) → size n (raised_diagonal m by i) ≤ size n (m i) + by i
raised_size n m by i = moved_size n m (raised_diagonal m by) by i (λ j. one (nat_eq j i) (m i j) (by i))
  where
    one : (b : Bool) (x : ℤ) (a : ℕ) → unsigned_abs (x +ℤ (if b then pos a else pos 0)) ≤ unsigned_abs x + (if b then a else 0)
    one true x a = omega (arith, ints)
    one false x a = omega (arith, ints)

-- both, entry by entry
pub reach_split : (n : ℕ) (f g : ℕ → ℤ) → size n f + size n g ≡ amount n (λ j. unsigned_abs (f j) + unsigned_abs (g j))
reach_split n f g = sym (amount_add n (λ j. unsigned_abs (f j)) (λ j. unsigned_abs (g j)))

-- an entry beside the radii of its row leaves room
pub own_room : (n : ℕ) (f g : ℕ → ℤ) (i t : ℕ) → i < n → amount n (λ j. unsigned_abs (f j) + unsigned_abs (g j)) ≤ t → unsigned_abs (f i) + size n g ≤ t
own_room n f g i t l h = let a = at_size i n f l in let b = reach_split n f g in omega (arith, a, b, h)

-- ---- products of enclosures
-- by their entries
pub gram_same : (n : ℕ) (w v : ℕ → ℤ) (x y : ℕ → ℕ → Enclosure) (j l : ℕ) → ((i : ℕ) → i < n → w i ≡ v i) → ((i : ℕ) → i < n → (x i j ≡ y i j) × (x i l ≡ y i l)) →
    weighted_gram n w x j l ≡ weighted_gram n v y j l
gram_same n w v x y j l h k = ap (λ (e : Enclosure). divided e (2 ^ 40)) (same_pair
    (total_same n _ _ (λ i o. term (h i o) (k i o).0 (k i o).1)) (total_same n _ _ (λ i o. radius (h i o) (k i o).0 (k i o).1)))
  where
    term : {w v : ℤ} {a b e f : Enclosure} → w ≡ v → a ≡ b → e ≡ f → w *ℤ (whole_product a e).mid ≡ v *ℤ (whole_product b f).mid
    term {w} {v} {a} {b} {e} {f} p q r = ap₂ (λ (z : ℤ) (y : Enclosure). z *ℤ (whole_product y e).mid) p q ∙ ap (λ (y : Enclosure). v *ℤ (whole_product b y).mid) r

    radius : {w v : ℤ} {a b e f : Enclosure} → w ≡ v → a ≡ b → e ≡ f → absolute w *ℤ (whole_product a e).rad ≡ absolute v *ℤ (whole_product b f).rad
    radius {w} {v} {a} {b} {e} {f} p q r = ap₂ (λ (z : ℤ) (y : Enclosure). absolute z *ℤ (whole_product y e).rad) p q ∙ ap (λ (y : Enclosure). absolute v *ℤ (whole_product b y).rad) r

-- what two entries reach
abbrev pub far_product : (x : ℕ → ℕ → Enclosure) → ℕ → ℕ → ℕ → ℕ
far_product x j l i = (unsigned_abs (x i j).mid + unsigned_abs (x i j).rad) * (unsigned_abs (x i l).mid + unsigned_abs (x i l).rad)

abbrev pub AreSigned : ℕ → (ℕ → ℕ → Enclosure) → ℕ → ℕ → Type 0
AreSigned n x j l = (i : ℕ) → i < n → (pos 0 ≤ℤ (x i j).rad) × (pos 0 ≤ℤ (x i l).rad)

-- an entry, before it is rounded, by how often each row counts
pub sum_reach : (n : ℕ) (w : ℕ → ℕ) (x : ℕ → ℕ → Enclosure) (j l : ℕ) → AreSigned n x j l →
    (pos 0 ≤ℤ (gram_sum n (λ i. pos (w i)) x j l).rad) ×
    (unsigned_abs (gram_sum n (λ i. pos (w i)) x j l).mid + unsigned_abs (gram_sum n (λ i. pos (w i)) x j l).rad ≤ amount n (λ i. w i * far_product x j l i))
sum_reach zero w x j l h = (omega (arith, ints), omega arith)
sum_reach (suc n) w x j l h = more _ _ (w n) (whole_product (x n j) (x n l)).mid (whole_product (x n j) (x n l)).rad _ _
    (sum_reach n w x j l (λ i o. h i (omega arith))) (product_nonneg (x n j) (x n l) (h n (omega arith)).0 (h n (omega arith)).1)
    (product_reach (x n j) (x n l) (h n (omega arith)).0 (h n (omega arith)).1)
  where
    more : (m r : ℤ) (w : ℕ) (a b : ℤ) (t f : ℕ) → (pos 0 ≤ℤ r) × (unsigned_abs m + unsigned_abs r ≤ t) → pos 0 ≤ℤ b → unsigned_abs a + unsigned_abs b ≡ f →
        (pos 0 ≤ℤ (r +ℤ pos w *ℤ b)) × (unsigned_abs (m +ℤ pos w *ℤ a) + unsigned_abs (r +ℤ pos w *ℤ b) ≤ t + w * f)
    more m r w a b t f k o e = numbers (pos w *ℤ a) (pos w *ℤ b) k (mul_nonneg_z (pos w) b (omega (arith, ints)) o) (
      unsigned_abs-mul (pos w) a,
      unsigned_abs-mul (pos w) b,
      ap (λ (z : ℕ). w * z) e,
    )
      where
        numbers : (x y : ℤ) → (pos 0 ≤ℤ r) × (unsigned_abs m + unsigned_abs r ≤ t) → pos 0 ≤ℤ y →
            (unsigned_abs x ≡ w * unsigned_abs a) × (unsigned_abs y ≡ w * unsigned_abs b) × (w * (unsigned_abs a + unsigned_abs b) ≡ w * f) →
            (pos 0 ≤ℤ (r +ℤ y)) × (unsigned_abs (m +ℤ x) + unsigned_abs (r +ℤ y) ≤ t + w * f)
        numbers x y k o e = (omega (arith, ints, k.0, o), omega (arith, ints, k.1, e.0, e.1, e.2))

-- rounding
pub rounded_reach : (m r : ℤ) → pos 0 ≤ℤ r →
    (unsigned_abs (round_of m (2 ^ 40)) + unsigned_abs (ceil_of r (2 ^ 40) +ℤ inexact m (2 ^ 40)) ≤ unsigned_abs m + unsigned_abs r) ×
    (2 ^ 40 * (unsigned_abs (round_of m (2 ^ 40)) + unsigned_abs (ceil_of r (2 ^ 40) +ℤ inexact m (2 ^ 40))) ≤ unsigned_abs m + unsigned_abs r + 3 * 2 ^ 40)
rounded_reach m r h =
    let q = round_of_bounds m (2 ^ 40) (lit< tt) in
    let c = ceil_of_is r (2 ^ 40) (lit< tt) in
    let i = inexact_small m (2 ^ 40) in
    elim (cases_eq (unsigned_abs m) 0) [
      | inl e ↦ numbers m r (round_of m (2 ^ 40)) (ceil_of r (2 ^ 40)) (inexact m (2 ^ 40)) h q.0 q.1 c.greatest c.least i.0 (inl (e, exact e))
      | inr e ↦ numbers m r (round_of m (2 ^ 40)) (ceil_of r (2 ^ 40)) (inexact m (2 ^ 40)) h q.0 q.1 c.greatest c.least i.0 (inr (omega (arith, e), i.1))
    ]
  where
    exact : unsigned_abs m ≡ 0 → inexact m (2 ^ 40) ≡ pos 0
    exact e = rw e refl

    numbers : (m r q c i : ℤ) → pos 0 ≤ℤ r → (pos 2 *ℤ (q *ℤ pos (2 ^ 40))) ≤ℤ (pos 2 *ℤ m +ℤ pos (2 ^ 40)) →
        (pos 2 *ℤ m +ℤ pos (2 ^ 40)) <ℤ (pos 2 *ℤ (q *ℤ pos (2 ^ 40)) +ℤ pos 2 *ℤ pos (2 ^ 40)) →
        r ≤ℤ (c *ℤ pos (2 ^ 40)) → ((c -ℤ pos 1) *ℤ pos (2 ^ 40)) <ℤ r → pos 0 ≤ℤ i →
        ((unsigned_abs m ≡ 0) × (i ≡ pos 0)) ⊎ ((1 ≤ unsigned_abs m) × (i ≤ℤ pos 1)) →
        (unsigned_abs q + unsigned_abs (c +ℤ i) ≤ unsigned_abs m + unsigned_abs r) ×
        (2 ^ 40 * (unsigned_abs q + unsigned_abs (c +ℤ i)) ≤ unsigned_abs m + unsigned_abs r + 3 * 2 ^ 40)
    numbers m r q c i h a b k l o (inl e) = (omega (arith, ints, e.0, e.1), omega (arith, ints, e.0, e.1))
    numbers m r q c i h a b k l o (inr e) = (omega (arith, ints, e.0, e.1), omega (arith, ints, e.0, e.1))
