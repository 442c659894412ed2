-- Products of columns, and matrices made row by row.
use Rattle.std.proofs.Common.{◌≡◌, ℕ, zero, suc, ◌+◌, ◌*◌, ◌^◌, ◌<◌, ◌≤◌, ℤ, pos, negsuc, ◌+ℤ◌, ◌*ℤ◌, ◌≤ℤ◌, List, [], length, replicate, refl, get_or, unsigned_abs, arith, sym, ap, ◌∙◌, below_more, set, inl, inr}
use Rattle.std.proofs.lemmas.Int.{unsigned_abs-mul, ints}
use Rattle.std.proofs.lemmas.Bool.{cases_eq, cases_lt}
use Rattle.std.proofs.lemmas.List.{length-replicate, get_or-replicate, length-set, set_past, get_or-set_same, get_or-set_other}
use Rattle.std.proofs.lemmas.List.Elements.{All-replicate}
use Rattle.integer_algebra.specs.Bounds.{absolute}
use Rattle.integer_algebra.specs.Sums.{at}
use Rattle.integer_algebra.proofs.BoundLaws.{absolute_nonneg}
use Rattle.integer_algebra.proofs.OrderLaws.{add_nonneg_z, mul_nonneg_z}
use Rattle.integer_algebra.proofs.SumLaws.{total_same}
use Rattle.integer_algebra.proofs.SizeLaws.{total_amount}
use Rattle.frac_scaled.specs.Enclosures.{Enclosure, whole_product, magnitude}
use Rattle.mat_int.specs.Matrix.{Matrix, row_of, entry_of, with_entry, zero_matrix, HasEntries}
use Rattle.mat_int.proofs.MatrixLaws.{entry_here, entry_beside, entry_elsewhere, even_kept}
use Rattle.mat_int.specs.Enclosures.{gram_magnitude, AreEnclosures, HasEnclosures}
use Rattle.enclosure.specs.Rows.{HasBegun, AreBegun}
use Rattle.enclosure.proofs.RoomLaws.{reach_is, reach_mul_is}
use Rattle.enclosure.proofs.SumLaws.{combination_size}

-- ---- products
-- what a product reaches
pub product_reach : (a b : Enclosure) → pos 0 ≤ℤ a.rad → pos 0 ≤ℤ b.rad →
    unsigned_abs (whole_product a b).mid + unsigned_abs (whole_product a b).rad ≡
    (unsigned_abs a.mid + unsigned_abs a.rad) * (unsigned_abs b.mid + unsigned_abs b.rad)
product_reach a b h k = apart a.mid a.rad b.mid b.rad h k
  where
    apart : (m r n s : ℤ) → pos 0 ≤ℤ r → pos 0 ≤ℤ s →
        unsigned_abs (m *ℤ n) + unsigned_abs (absolute m *ℤ s +ℤ r *ℤ absolute n +ℤ r *ℤ s) ≡ (unsigned_abs m + unsigned_abs r) * (unsigned_abs n + unsigned_abs s)
    apart m (pos r) n (pos s) h k = omega (arith, unsigned_abs-mul m n)
    apart m (negsuc r) n s h k = absurd h.le
    apart m (pos r) n (negsuc s) h k = absurd k.le

-- within the limit where the product of what both reach is
pub product_near : (a b e : Enclosure) → pos 0 ≤ℤ a.rad → pos 0 ≤ℤ b.rad → pos 0 ≤ℤ e.rad → e ≡ whole_product a b →
    (magnitude a *ℤ magnitude b) ≤ℤ pos (2 ^ 126) → magnitude e ≤ℤ pos (2 ^ 126)
product_near a b e h k l is room =
    rw (reach_is e.mid e.rad l, ap (λ (x : Enclosure). unsigned_abs x.mid + unsigned_abs x.rad) is ∙ product_reach a b h k)
    (rw (reach_mul_is a.mid a.rad b.mid b.rad h k) at room)

-- and its radius isn't negative
pub product_nonneg : (a b : Enclosure) → pos 0 ≤ℤ a.rad → pos 0 ≤ℤ b.rad → pos 0 ≤ℤ (whole_product a b).rad
product_nonneg a b h k =
    add_nonneg_z (add_nonneg_z (mul_nonneg_z _ _ (absolute_nonneg a.mid) k) (mul_nonneg_z _ _ h (absolute_nonneg b.mid))) (mul_nonneg_z _ _ h k)

-- one that is taken at least once
pub once : (w n m : ℕ) → 0 < w → w * n ≤ m → n ≤ m
once zero n m h k = absurd (omega arith)
once (suc w) n m h k = omega (arith, k)

-- the magnitudes of the terms of an entry are together what `gram_magnitude` says
pub gram_reach_is : (n : ℕ) (w : ℕ → ℤ) (x : ℕ → ℕ → Enclosure) (j l : ℕ) → ((i : ℕ) → i < n → pos 0 ≤ℤ w i) →
    ((i : ℕ) → i < n → (pos 0 ≤ℤ (x i j).rad) × (pos 0 ≤ℤ (x i l).rad)) →
    gram_magnitude n w x j l ≡ pos (combination_size n w (λ i. whole_product (x i j) (x i l)))
gram_reach_is n w x j l h k =
    total_same n _ _ (λ i s. term (w i) (x i j) (x i l) (h i s) (k i s).0 (k i s).1) ∙
    total_amount n (λ i. unsigned_abs (w i) * (unsigned_abs (whole_product (x i j) (x i l)).mid + unsigned_abs (whole_product (x i j) (x i l)).rad))
  where
    term : (w : ℤ) (a b : Enclosure) → pos 0 ≤ℤ w → pos 0 ≤ℤ a.rad → pos 0 ≤ℤ b.rad →
        w *ℤ (magnitude a *ℤ magnitude b) ≡ pos (unsigned_abs w * (unsigned_abs (whole_product a b).mid + unsigned_abs (whole_product a b).rad))
    term (pos w) a b h k l =
        ap (λ (z : ℤ). pos w *ℤ z) (reach_mul_is a.mid a.rad b.mid b.rad k l) ∙ ap (λ (n : ℕ). pos (w * n)) (sym (product_reach a b k l))
    term (negsuc w) a b h k l = absurd h.le

-- ---- matrices
-- no row yet
begun_none : (n : ℕ) (f : ℕ → ℕ → ℤ) (m : Matrix) → m ≡ zero_matrix n n → HasBegun 0 0 n f m
begun_none n f m e = rw e (record {
  rows = length-replicate n (replicate n (pos 0));
  cols = refl;
  even = All-replicate (λ row. length row ≡ n) n (replicate n (pos 0)) (length-replicate n (pos 0));
  entries = λ i j p q. absurd (omega arith);
  next = λ j p. absurd (omega arith);
})

-- one entry more
begun_more : (i j n : ℕ) (f : ℕ → ℕ → ℤ) (m k : Matrix) (v : ℤ) → HasBegun i j n f m → i < n → j < n → k ≡ with_entry m i j v → v ≡ f i j →
    HasBegun i (j + 1) n f k
begun_more i j n f m k v h p q e is =
    let row : i < length m.rows = omega (arith, h.rows, p) in
    let col : j < length (row_of m i) = omega (arith, h.even i [] row, q) in
    rw e (record {
      rows = length-set m.rows i _ ∙ h.rows;
      cols = h.cols;
      even = even_kept m n i j v h.even row;
      entries = λ a b l s. entry_elsewhere m i j a b v (λ same. absurd (omega (arith, same, l))) ∙ h.entries a b l s;
      next = below_more _ _ (λ b l. entry_beside m i j i b v (λ same. absurd (omega (arith, same, l))) row ∙ h.next b l) (entry_here m i j v row col ∙ is);
    })

-- one row more
begun_row : (i n : ℕ) (f : ℕ → ℕ → ℤ) (m : Matrix) → HasBegun i n n f m → HasBegun (i + 1) 0 n f m
begun_row i n f m h =
    let all : (a : ℕ) → a < i + 1 → (b : ℕ) → b < n → entry_of m a b ≡ f a b = below_more _ _ (λ a p b q. h.entries a b p q) h.next in
    record {
      rows = h.rows;
      cols = h.cols;
      even = h.even;
      entries = λ a b p q. all a p b q;
      next = λ j p. absurd (omega arith);
    }

-- all rows
begun_all : (n : ℕ) (f : ℕ → ℕ → ℤ) (m : Matrix) → HasBegun n 0 n f m → HasEntries n n f m
begun_all n f m h = record { rows = h.rows; cols = h.cols; even = h.even; entries = h.entries }

-- the same of both matrices
pub are_none : (n : ℕ) (f : ℕ → ℕ → Enclosure) (mid rad : Matrix) → mid ≡ zero_matrix n n → rad ≡ zero_matrix n n → AreBegun 0 0 n f mid rad
are_none n f mid rad e d = record { mids = begun_none n _ mid e; rads = begun_none n _ rad d }

pub are_more : (i j n : ℕ) (f : ℕ → ℕ → Enclosure) (mid rad m r : Matrix) (u v : ℤ) → AreBegun i j n f mid rad → i < n → j < n →
    m ≡ with_entry mid i j u → r ≡ with_entry rad i j v → u ≡ (f i j).mid → v ≡ (f i j).rad → AreBegun i (j + 1) n f m r
are_more i j n f mid rad m r u v h p q e d is same = record { mids = begun_more i j n _ mid m u h.mids p q e is; rads = begun_more i j n _ rad r v h.rads p q d same }

pub are_row : (i n : ℕ) (f : ℕ → ℕ → Enclosure) (mid rad : Matrix) → AreBegun i n n f mid rad → AreBegun (i + 1) 0 n f mid rad
are_row i n f mid rad h = record { mids = begun_row i n _ mid h.mids; rads = begun_row i n _ rad h.rads }

pub are_all : (n : ℕ) (f : ℕ → ℕ → Enclosure) (mid rad : Matrix) → AreBegun n 0 n f mid rad → HasEnclosures n n f mid rad
are_all n f mid rad h = record { mids = begun_all n _ mid h.mids; rads = begun_all n _ rad h.rads }

-- a fact of an element and of what is put into the list
set_keeps : {X : Type 0} (P : X → Type 0) (xs : List X) (i k : ℕ) (y d : X) → P y → P (get_or xs k d) → P (get_or (set xs i y) k d)
set_keeps P xs i k y d h o = elim (cases_eq k i) [
  | inl e ↦ elim (cases_lt i (length xs)) [
    | inl l ↦ rw (e, get_or-set_same xs i y d l) h
    | inr l ↦ rw (set_past xs i y l) o
  ]
  | inr n ↦ rw (get_or-set_other xs i k y d n) o
]

-- zeros with radius 0
pub none_negative : (rows cols : ℕ) → AreEnclosures (zero_matrix rows cols) (zero_matrix rows cols)
none_negative rows cols = record {
  rows = refl;
  cols = refl;
  nonnegative = λ i j p q.
      (let inside : i < rows = omega (arith, length-replicate rows (replicate cols (pos 0)), p) in
      rw (get_or-replicate rows i (replicate cols (pos 0)) [] inside, get_or-replicate cols j (pos 0) (pos 0) q) (omega (arith, ints)));
}

-- one entry put
pub entry_put : (mid rad : Matrix) (i j : ℕ) (u v : ℤ) → pos 0 ≤ℤ v → AreEnclosures mid rad → AreEnclosures (with_entry mid i j u) (with_entry rad i j v)
entry_put mid rad i j u v h s =
    let rads = length-set rad.rows i (set (row_of rad i) j v) in
    let mids = length-set mid.rows i (set (row_of mid i) j u) in
    record {
      rows = rads ∙ s.rows ∙ sym mids;
      cols = s.cols;
      nonnegative = λ k l p q.
          (let inside : k < length mid.rows = omega (arith, mids, p) in
          put k l (s.nonnegative k l inside q) (λ e. (let here : i < length mid.rows = omega (arith, e, inside) in s.nonnegative i l here q)));
    }
  where
    put : (k l : ℕ) → pos 0 ≤ℤ entry_of rad k l → (k ≡ i → pos 0 ≤ℤ entry_of rad i l) → pos 0 ≤ℤ entry_of (with_entry rad i j v) k l
    put k l o n = elim (cases_eq k i) [
      | inl e ↦ set_keeps (λ row. pos 0 ≤ℤ at row l) rad.rows i k (set (row_of rad i) j v) [] (set_keeps (λ z. pos 0 ≤ℤ z) (row_of rad i) j l v (pos 0) h (n e)) o
      | inr e ↦ rw (get_or-set_other rad.rows i k (set (row_of rad i) j v) [] e) o
    ]
