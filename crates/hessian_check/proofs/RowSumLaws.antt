-- The weighted products of a form's rows, as code makes them.
use Rattle.std.proofs.Common.{◌≡◌, ◌≢◌, inl, inr, ℕ, zero, suc, ◌+◌, ◌-◌, ◌*◌, ◌<◌, ◌≤◌, ◌^◌, [], ◌∷◌, ℤ, pos, ◌+ℤ◌, ◌*ℤ◌, ◌≤ℤ◌, unsigned_abs, replicate, Fits, FitsSigned, to_z, arith, ap, ap₂, sym, ◌∙◌, refl}
use Rattle.std.specs.Int.{w128}
use Rattle.std.proofs.Math.Nat.{mul-le-mul_left, mul-le-mul_right}
use Rattle.std.proofs.lemmas.Bool.{cases_lt}
use Rattle.std.proofs.lemmas.Int.{ints, fits_signed_from_abs, to_z_pos, to_z-of_z, unsigned_abs-mul}
use Rattle.std.proofs.lemmas.List.{get_or-replicate}
use Rattle.integer_algebra.specs.Bounds.{absolute}
use Rattle.integer_algebra.specs.Sizes.{amount}
use Rattle.integer_algebra.specs.Sums.{total}
use Rattle.integer_algebra.proofs.AmountLaws.{amount_mono, amount_scale}
use Rattle.integer_algebra.proofs.OrderLaws.{add_nonneg_z, mul_nonneg_z}
use Rattle.integer_algebra.proofs.Quoting.{by_ring, quotes}
use Rattle.integer_algebra.proofs.RingLaws.{add-mul_z, mul_assoc_z}
use Rattle.integer_algebra.proofs.SizeLaws.{amount_same}
use Rattle.integer_algebra.proofs.SumLaws.{total_same, total_scale}
use Rattle.frac_scaled.specs.Enclosures.{Enclosure, magnitude, multiple, sum_of, whole_product}
use Rattle.mat_int.specs.Matrix.{Matrix, zero_matrix, HasEntries}
use Rattle.mat_int.specs.Enclosures.{gram_sum, HasEnclosures}
use Rattle.mat_int.proofs.MatrixLaws.{entries_same}
use Rattle.enclosure.specs.declared.types.Enc.{Enc}
use Rattle.enclosure.specs.Values.{pair}
use Rattle.enclosure.proofs.GramLaws.{product_nonneg, product_reach}
use Rattle.enclosure.proofs.RoomLaws.{product_rest, product_small, reach_is}
use Rattle.condensed_form.proofs.Rooms.{read}
use Rattle.hessian_check.specs.RowSums.{far_entry, more_sum}
use Rattle.hessian_check.proofs.FillLaws.{first_zero}
use Rattle.hessian_check.proofs.HeldMatrices.{AreSigned, far_product, sum_reach}

-- ---- a sum and a product, as code computes them
-- their numbers fit
pub record AreWords (sum a b : Enc) : Type 0 where
  pub sum_mid : FitsSigned w128 sum.mid
  pub sum_rad : FitsSigned w128 sum.rad
  pub a_mid : FitsSigned w128 a.mid
  pub b_mid : FitsSigned w128 b.mid

-- what the product of two reaches x and y needs
pub reach_fits : {m n x y : ℕ} (s : ℕ) → m ≡ x → n ≡ y → s + x * y < 2 ^ 127 → Fits w128 (m * n)
reach_fits {m} {n} {x} {y} s e f h = rw (e, f) (under s (x * y) h)
  where
    under : (s p : ℕ) → s + p < 2 ^ 127 → Fits w128 p
    under s p h = omega (arith, h)

pub rest_fits : {m n x y : ℕ} (s u : ℕ) → m ≡ x → n ≡ y → s + x * y < 2 ^ 127 → FitsSigned w128 (pos (m * n - u))
rest_fits {m} {n} {x} {y} s u e f h = rw (e, f) (fits_signed_from_abs w128 _ (under s (x * y) u h))
  where
    under : (s p u : ℕ) → s + p < 2 ^ 127 → p - u < 2 ^ 127
    under s p u h = omega (arith, h)

module _ (sum a b : Enc) (words : AreWords sum a b)
    (room : unsigned_abs sum.mid + unsigned_abs sum.rad + (unsigned_abs a.mid + unsigned_abs a.rad) * (unsigned_abs b.mid + unsigned_abs b.rad) < 2 ^ 127) where
  -- what the product reaches
  abbrev far : ℕ
  far = (unsigned_abs a.mid + unsigned_abs a.rad) * (unsigned_abs b.mid + unsigned_abs b.rad)

  pub product_fits : FitsSigned w128 (a.mid *ℤ b.mid)
  product_fits = fits_signed_from_abs w128 _ (omega (arith, product_small a.mid a.rad b.mid b.rad, room))

  pub product_is : read (read a.mid *ℤ read b.mid) ≡ a.mid *ℤ b.mid
  product_is = rw (to_z-of_z w128 _ words.a_mid, to_z-of_z w128 _ words.b_mid) (to_z-of_z w128 _ product_fits)

  pub mid_fits : FitsSigned w128 (sum.mid +ℤ a.mid *ℤ b.mid)
  mid_fits = fits_signed_from_abs w128 _ (under sum.mid (a.mid *ℤ b.mid) _ _ (product_small a.mid a.rad b.mid b.rad) room)
    where
      under : (x y : ℤ) (r f : ℕ) → unsigned_abs y ≤ f → unsigned_abs x + r + f < 2 ^ 127 → unsigned_abs (x +ℤ y) < 2 ^ 127
      under x y r f h k = omega (arith, ints, h, k)

  -- m and n are what the factors reach, and u is the absolute value of the product of the midpoints
  module _ (u m n : ℕ) (du : u ≡ unsigned_abs (read (read a.mid *ℤ read b.mid))) (dm : m ≡ unsigned_abs a.mid + unsigned_abs a.rad) (dn : n ≡ unsigned_abs b.mid + unsigned_abs b.rad) where
    far_is : m * n ≡ far
    far_is = ap₂ (λ (x y : ℕ). x * y) dm dn

    pub rest_inside : u ≤ m * n
    rest_inside = under (du ∙ ap unsigned_abs product_is) far_is (product_small a.mid a.rad b.mid b.rad)
      where
        under : {x y z w : ℕ} → x ≡ y → z ≡ w → y ≤ w → x ≤ z
        under {x} {y} {z} {w} e g h = omega (arith, e, g, h)

    rest_is : to_z w128 (m * n - u) ≡ (whole_product (pair a) (pair b)).rad
    rest_is = to_z_pos w128 (m * n - u) (under _ _ far_is room) ∙ rw (far_is, du, product_is) (product_rest a.mid a.rad b.mid b.rad a.nonnegative b.nonnegative)
      where
        under : {x y : ℕ} (z v : ℕ) → x ≡ y → z + y < 2 ^ 127 → x - v < 2 ^ 127
        under {x} {y} z v e h = omega (arith, e, h)

    rad_inside : FitsSigned w128 (sum.rad +ℤ (whole_product (pair a) (pair b)).rad)
    rad_inside = fits_signed_from_abs w128 _ (under sum.rad (whole_product (pair a) (pair b)).rad (a.mid *ℤ b.mid) _ _ (product_reach (pair a) (pair b) a.nonnegative b.nonnegative) room)
      where
        under : (x y z : ℤ) (r f : ℕ) → unsigned_abs z + unsigned_abs y ≡ f → r + unsigned_abs x + f < 2 ^ 127 → unsigned_abs (x +ℤ y) < 2 ^ 127
        under x y z r f h k = omega (arith, ints, h, k)

    pub rad_fits : FitsSigned w128 (read sum.rad +ℤ to_z w128 (m * n - u))
    rad_fits = rw (to_z-of_z w128 _ words.sum_rad, rest_is) rad_inside

    pub rad_is : read (read sum.rad +ℤ to_z w128 (m * n - u)) ≡ sum.rad +ℤ (whole_product (pair a) (pair b)).rad
    rad_is = rw (to_z-of_z w128 _ words.sum_rad, rest_is) (to_z-of_z w128 _ rad_inside)

    pub rad_nonneg : pos 0 ≤ℤ read (read sum.rad +ℤ to_z w128 (m * n - u))
    rad_nonneg = rw rad_is (add_nonneg_z sum.nonnegative (product_nonneg (pair a) (pair b) a.nonnegative b.nonnegative))

    pub mid_is : read (read sum.mid +ℤ read (read a.mid *ℤ read b.mid)) ≡ sum.mid +ℤ a.mid *ℤ b.mid
    mid_is = rw (to_z-of_z w128 _ words.sum_mid, product_is) (to_z-of_z w128 _ mid_fits)

-- ---- a multiple, as code computes it
times_is : (k : ℕ) (z : ℤ) (o : ℕ) → k < 2 ^ 32 → FitsSigned w128 z → unsigned_abs z ≤ o → k * o < 2 ^ 127 →
    FitsSigned w128 (to_z w128 k *ℤ read z) × (read (to_z w128 k *ℤ read z) ≡ pos k *ℤ z)
times_is k z o few fits below room =
    let f : FitsSigned w128 (pos k *ℤ z) = fits_signed_from_abs w128 _ (rw (unsigned_abs-mul (pos k) z) (under (mul-le-mul_left k below) room)) in
    rw (to_z_pos w128 k (omega (arith, few)), to_z-of_z w128 _ fits) (f, to_z-of_z w128 _ f)
  where
    under : {a b : ℕ} → a ≤ b → b < 2 ^ 127 → a < 2 ^ 127
    under {a} {b} h l = omega (arith, h, l)

module _ (k : ℕ) (a : Enc) (few : k < 2 ^ 32) (mid : FitsSigned w128 a.mid) (rad : FitsSigned w128 a.rad) (room : k * (unsigned_abs a.mid + unsigned_abs a.rad) < 2 ^ 127) where
  pub times_mid : FitsSigned w128 (to_z w128 k *ℤ read a.mid) × (read (to_z w128 k *ℤ read a.mid) ≡ pos k *ℤ a.mid)
  times_mid = times_is k a.mid (unsigned_abs a.mid + unsigned_abs a.rad) few mid (omega arith) room

  pub times_rad : FitsSigned w128 (to_z w128 k *ℤ read a.rad) × (read (to_z w128 k *ℤ read a.rad) ≡ pos k *ℤ a.rad)
  times_rad = times_is k a.rad (unsigned_abs a.mid + unsigned_abs a.rad) few rad (omega arith) room

  pub times_nonneg : pos 0 ≤ℤ read (to_z w128 k *ℤ read a.rad)
  times_nonneg = rw times_rad.1 (mul_nonneg_z (pos k) a.rad (omega (arith, ints)) a.nonnegative)

-- ---- a row that counts more often
-- what is added leaves room
pub more_room : (s x y : Enclosure) (k : ℕ) {t o p : Enclosure} → t ≡ s → o ≡ multiple (pos k) x → p ≡ y →
    unsigned_abs s.mid + unsigned_abs s.rad + k * (unsigned_abs x.mid + unsigned_abs x.rad) * (unsigned_abs y.mid + unsigned_abs y.rad) < 2 ^ 127 →
    unsigned_abs t.mid + unsigned_abs t.rad + (unsigned_abs o.mid + unsigned_abs o.rad) * (unsigned_abs p.mid + unsigned_abs p.rad) < 2 ^ 127
more_room s x y k {t} {o} {p} e f g h = rw (e, f, g, unsigned_abs-mul (pos k) x.mid, unsigned_abs-mul (pos k) x.rad) (
    under _ (unsigned_abs s.mid + unsigned_abs s.rad) (unsigned_abs y.mid + unsigned_abs y.rad) (split k (unsigned_abs x.mid) (unsigned_abs x.rad)) h)
  where
    split : (k a b : ℕ) → k * (a + b) ≡ k * a + k * b
    split k a b = omega arith

    under : {a : ℕ} (b u f : ℕ) → a ≡ b → u + a * f < 2 ^ 127 → u + b * f < 2 ^ 127
    under {a} b u f e h = rw (← e) h

-- what is added
pub more_is : (s x y : Enclosure) (k : ℕ) {t o p m : Enclosure} → t ≡ s → o ≡ multiple (pos k) x → p ≡ y → m ≡ sum_of t (whole_product o p) →
    m ≡ sum_of s (whole_product (multiple (pos k) x) y)
more_is s x y k {t} {o} {p} e f g h = h ∙ ap₂ sum_of e (ap₂ whole_product f g)

-- ---- sums in which one term is another
total_moved : (n : ℕ) (f g : ℕ → ℤ) (k : ℕ) (c : ℤ) → k < n → g k ≡ f k +ℤ c → ((i : ℕ) → i < n → i ≢ k → g i ≡ f i) → total n g ≡ total n f +ℤ c
total_moved zero f g k c l e h = absurd (omega arith)
total_moved (suc n) f g k c l e h = elim (cases_lt k n) [
  | inl o ↦ omega (arith, ints, total_moved n f g k c o e (λ i t. h i (omega arith)), h n (omega arith) (omega arith))
  | inr o ↦ (let q : k ≡ n = omega arith in omega (arith, ints, total_same n g f (λ i t. h i (omega arith) (omega arith)), rw q at e))
]

amount_moved : (n : ℕ) (f g : ℕ → ℕ) (k c : ℕ) → k < n → g k ≡ f k + c → ((i : ℕ) → i < n → i ≢ k → g i ≡ f i) → amount n g ≡ amount n f + c
amount_moved zero f g k c l e h = absurd (omega arith)
amount_moved (suc n) f g k c l e h = elim (cases_lt k n) [
  | inl o ↦ omega (arith, amount_moved n f g k c o e (λ i t. h i (omega arith)), h n (omega arith) (omega arith))
  | inr o ↦ (let q : k ≡ n = omega arith in omega (arith, amount_same n g f (λ i t. h i (omega arith) (omega arith)), rw q at e))
]

-- ---- sums by how often each row counts
-- a multiple of a product
multiple_mid : (k : ℕ) (a b : Enclosure) → (whole_product (multiple (pos k) a) b).mid ≡ pos k *ℤ (whole_product a b).mid
multiple_mid k a b = mul_assoc_z (pos k) a.mid b.mid

multiple_rad : (k : ℕ) (a b : Enclosure) → (whole_product (multiple (pos k) a) b).rad ≡ pos k *ℤ (whole_product a b).rad
multiple_rad k a b = ap (λ (u : ℕ). pos u *ℤ b.rad +ℤ pos k *ℤ a.rad *ℤ absolute b.mid +ℤ pos k *ℤ a.rad *ℤ b.rad) (unsigned_abs-mul (pos k) a.mid) ∙
    turn (pos k) (absolute a.mid) a.rad (absolute b.mid) b.rad
  where
    turn : (k m r n s : ℤ) → k *ℤ m *ℤ s +ℤ k *ℤ r *ℤ n +ℤ k *ℤ r *ℤ s ≡ k *ℤ (m *ℤ s +ℤ r *ℤ n +ℤ r *ℤ s)
    turn k m r n s = by_ring (k ∷ m ∷ r ∷ n ∷ s ∷ []) (search quotes depth 60 fits 20000) refl

module _ (n m : ℕ) (x : ℕ → ℕ → Enclosure) where
  -- rows that count equally often
  pub sums_same : (w v : ℕ → ℕ) (a b : Matrix) → ((l : ℕ) → l < m → w l ≡ v l) → HasEnclosures n n (gram_sum m (λ l. pos (w l)) x) a b → HasEnclosures n n (gram_sum m (λ l. pos (v l)) x) a b
  sums_same w v a b e h = record {
    mids = entries_same n n _ _ a (λ i j o q. total_same m _ _ (λ l t. ap (λ (k : ℕ). pos k *ℤ (whole_product (x l i) (x l j)).mid) (e l t))) h.mids;
    rads = entries_same n n _ _ b (λ i j o q. total_same m _ _ (λ l t. ap (λ (k : ℕ). pos k *ℤ (whole_product (x l i) (x l j)).rad) (e l t))) h.rads;
  }

  -- no row counts
  pub sums_none : (a b : Matrix) → a ≡ zero_matrix n n → b ≡ zero_matrix n n → HasEnclosures n n (gram_sum m (λ l. pos 0) x) a b
  sums_none a b e g = record {
    mids = nothing a e (λ i j. nothing_added (λ l. (whole_product (x l i) (x l j)).mid));
    rads = nothing b g (λ i j. nothing_added (λ l. (whole_product (x l i) (x l j)).rad));
  }
    where
      nothing_added : (f : ℕ → ℤ) → total m (λ l. pos 0 *ℤ f l) ≡ pos 0
      nothing_added f = total_scale m (pos 0) f ∙ zero_times (total m f)
        where
          zero_times : (z : ℤ) → pos 0 *ℤ z ≡ pos 0
          zero_times z = omega (arith, ints)

      nothing : {f : ℕ → ℕ → ℤ} (z : Matrix) → z ≡ zero_matrix n n → ((i j : ℕ) → f i j ≡ pos 0) → HasEntries n n f z
      nothing {f} z e h = let q = first_zero n f z e in record {
        rows = q.rows;
        cols = q.cols;
        even = q.even;
        entries = λ i j o t. rw e (rw (get_or-replicate n i (replicate n (pos 0)) [] o, get_or-replicate n j (pos 0) (pos 0) t) (sym (h i j)));
      }

  module _ (w v : ℕ → ℕ) (i count : ℕ) (inside : i < m) (here : v i ≡ w i + count) (beside : (l : ℕ) → l < m → l ≢ i → v l ≡ w l) where
    moved : (f : ℕ → ℤ) → total m (λ l. pos (v l) *ℤ f l) ≡ total m (λ l. pos (w l) *ℤ f l) +ℤ pos count *ℤ f i
    moved f = total_moved m (λ l. pos (w l) *ℤ f l) (λ l. pos (v l) *ℤ f l) i (pos count *ℤ f i) inside (rw here (split (w i) count (f i)))
        (λ l o q. ap (λ (k : ℕ). pos k *ℤ f l) (beside l o q))
      where
        split : (a b : ℕ) (z : ℤ) → pos (a + b) *ℤ z ≡ pos a *ℤ z +ℤ pos b *ℤ z
        split a b z = add-mul_z (pos a) (pos b) z

    -- row i counts more often
    pub sums_more : (mid rad a b : Matrix) → HasEnclosures n n (gram_sum m (λ l. pos (w l)) x) mid rad → HasEnclosures n n (more_sum mid rad (x i) count) a b →
        HasEnclosures n n (gram_sum m (λ l. pos (v l)) x) a b
    sums_more mid rad a b h k = record {
      mids = entries_same n n _ _ a (λ j l o q. joined (h.mids.entries j l o q) (multiple_mid count (x i j) (x i l)) (moved (λ r. (whole_product (x r j) (x r l)).mid))) k.mids;
      rads = entries_same n n _ _ b (λ j l o q. joined (h.rads.entries j l o q) (multiple_rad count (x i j) (x i l)) (moved (λ r. (whole_product (x r j) (x r l)).rad))) k.rads;
    }
      where
        joined : {a s c d t : ℤ} → a ≡ s → c ≡ d → t ≡ s +ℤ d → a +ℤ c ≡ t
        joined {a} {s} {c} {d} {t} e f g = omega (arith, ints, e, f, g)

-- ---- how far they reach
module _ (n m : ℕ) (x : ℕ → ℕ → Enclosure) (signed : (l j : ℕ) → l < m → j < n → pos 0 ≤ℤ (x l j).rad) where
  both : (i j : ℕ) → i < n → j < n → AreSigned m x i j
  both i j o q l t = (signed l i t o, signed l j t q)

  -- each row counts at most so often
  weighted_most : (w : ℕ → ℕ) (most : ℕ) (f : ℕ → ℕ) → ((l : ℕ) → l < m → w l ≤ most) → amount m (λ l. w l * f l) ≤ most * amount m f
  weighted_most w most f h = under (amount_mono m _ (λ l. most * f l) (λ l t. mul-le-mul_right (f l) (h l t))) (amount_scale m most f)
    where
      under : {a b c : ℕ} → a ≤ b → b ≡ c → a ≤ c
      under {a} {b} {c} h e = omega (arith, h, e)

  module _ (w : ℕ → ℕ) (mid rad : Matrix) (s : HasEnclosures n n (gram_sum m (λ l. pos (w l)) x) mid rad) where
    pub entry_reach : (i j : ℕ) → i < n → j < n → far_entry mid rad i j ≤ amount m (λ l. w l * far_product x i j l)
    entry_reach i j o q = under (ap₂ (λ (y z : ℤ). unsigned_abs y + unsigned_abs z) (s.mids.entries i j o q) (s.rads.entries i j o q)) (sum_reach m w x i j (both i j o q)).1
      where
        under : {a b c : ℕ} → a ≡ b → b ≤ c → a ≤ c
        under {a} {b} {c} e h = omega (arith, e, h)

    -- of a row
    pub row_reach : (most : ℕ) → ((l : ℕ) → l < m → w l ≤ most) → (i : ℕ) → i < n → amount n (far_entry mid rad i) ≤ most * amount n (λ j. amount m (far_product x i j))
    row_reach most h i o = under (amount_mono n _ (λ j. most * amount m (far_product x i j)) (λ j q. through (entry_reach i j o q) (weighted_most w most (far_product x i j) h)))
        (amount_scale n most (λ j. amount m (far_product x i j)))
      where
        under : {a b c : ℕ} → a ≤ b → b ≡ c → a ≤ c
        under {a} {b} {c} h e = omega (arith, h, e)

        through : {a b c : ℕ} → a ≤ b → b ≤ c → a ≤ c
        through {a} {b} {c} h k = omega (arith, h, k)

    -- with the products of a row that counts more often
    pub more_reach : (v : ℕ → ℕ) (i count most : ℕ) → i < m → v i ≡ w i + count → ((l : ℕ) → l < m → l ≢ i → v l ≡ w l) → ((l : ℕ) → l < m → v l ≤ most) → (j l : ℕ) → j < n → l < n →
        far_entry mid rad j l + count * far_product x j l i ≤ most * amount m (far_product x j l)
    more_reach v i count most o e g h j l p q = under (count * far_product x j l i) (entry_reach j l p q) (amount_moved m (λ r. w r * far_product x j l r) (λ r. v r * far_product x j l r) i (count * far_product x j l i) o
        (rw e (split (w i) count (far_product x j l i))) (λ r t y. ap (λ (k : ℕ). k * far_product x j l r) (g r t y))) (weighted_most v most (far_product x j l) h)
      where
        split : (a b f : ℕ) → (a + b) * f ≡ a * f + b * f
        split a b f = omega arith

        under : {a b d e : ℕ} (c : ℕ) → a ≤ b → d ≡ b + c → d ≤ e → a + c ≤ e
        under {a} {b} {d} {e} c h f k = omega (arith, h, f, k)

-- ---- the matrix that is made of the sums
-- a sum may be rounded
pub sum_near : (x : Enclosure) (n : ℕ) {e : Enclosure} → e ≡ x → pos 0 ≤ℤ e.rad → unsigned_abs x.mid + unsigned_abs x.rad ≤ n → n ≤ 2 ^ 126 → magnitude e ≤ℤ pos (2 ^ 126)
sum_near x n {e} s h k l = under (reach_is e.mid e.rad h) (ap (λ (z : Enclosure). unsigned_abs z.mid + unsigned_abs z.rad) s) k l
  where
    under : {z : ℤ} {a b c : ℕ} → z ≡ pos a → a ≡ b → b ≤ c → c ≤ 2 ^ 126 → z ≤ℤ pos (2 ^ 126)
    under {z} {a} {b} {c} e g k l = omega (arith, ints, e, g, k, l)
