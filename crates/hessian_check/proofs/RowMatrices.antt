-- The matrices of the rows that code makes of a condensed form are those of its design.
use Rattle.std.proofs.Common.{◌≡◌, ◌≢◌, inl, inr, ℕ, ◌+◌, ◌*◌, ◌<◌, ◌≤◌, ◌^◌, ℤ, pos, ◌*ℤ◌, ◌≤ℤ◌, unsigned_abs, Bool, true, false, length, arith, ap, ap₂, sym, ◌∙◌, refl}
use Rattle.std.proofs.lemmas.Bool.{cases_lt, le-ltb, lt-ltb}
use Rattle.std.proofs.lemmas.Int.{ints}
use Rattle.std.proofs.Math.Nat.{mul-le-mul, mul-le-mul_left, one-mul}
use Rattle.integer_algebra.specs.Division.{ceil_div}
use Rattle.integer_algebra.specs.Sizes.{amount, size}
use Rattle.integer_algebra.proofs.AmountLaws.{amount_mono, amount_most, amount_none, amount_scale}
use Rattle.integer_algebra.proofs.SizeLaws.{amount_same, size_same}
use Rattle.integer_algebra.proofs.SumLaws.{total_same}
use Rattle.frac_scaled.specs.Enclosures.{Enclosure, divided}
use Rattle.mat_int.specs.Matrix.{Matrix, entry_of, zero_matrix, HasEntries}
use Rattle.mat_int.specs.Enclosures.{AreEnclosures, enclosure_at, HasEnclosures}
use Rattle.enclosure.proofs.RoomLaws.{same_pair}
use Rattle.qp_model.specs.declared.design_parts.DesignParts.{DesignParts}
use Rattle.qp_model.specs.form.Class.{product_row_in, row_quantity, rows_in}
use Rattle.qp_model.specs.problem.Design.{Design, entries, rows}
use Rattle.qp_model.specs.form.FineForm.{fine_form}
use Rattle.qp_model.specs.problem.Parts.{design_of}
use Rattle.condensed_form.specs.declared.condensed.Condensed.{Condensed}
use Rattle.condensed_form.specs.Form.{IsFormIn}
use Rattle.condensed_form.proofs.FormSums.{far_plan_small, products_pair, products_row}
use Rattle.hessian_check.specs.Curvature.{raised_diagonal}
use Rattle.hessian_check.specs.DesignMatrices.{IsRowMatrix}
use Rattle.hessian_check.specs.Held.{IsMovable}
use Rattle.hessian_check.specs.RowSums.{AreRowSums, far_entry, first_rows, HasRoomFor, HaveSumRoom, more_sum, rounded_sum, sums_matrix}
use Rattle.hessian_check.specs.Steps.{held_by, row_enclosure, row_products}
use Rattle.hessian_check.proofs.HeldMatrices.{amount_add, far_product, gram_same, own_room, raised_none, raised_same, raised_size, reach_split, rounded_reach}
use Rattle.hessian_check.proofs.RowSumLaws.{more_reach, row_reach, sums_more, sums_none, sums_same}

-- ---- sums, rounded
module _ (mid rad : Matrix) (s : AreEnclosures mid rad) (square : mid.cols ≡ length mid.rows) (room : HaveSumRoom mid rad) where
  rounded : (i j : ℕ) → i < length mid.rows → j < length mid.rows → let e = rounded_sum mid rad i j in
      (unsigned_abs e.mid + unsigned_abs e.rad ≤ far_entry mid rad i j) × (2 ^ 40 * (unsigned_abs e.mid + unsigned_abs e.rad) ≤ far_entry mid rad i j + 3 * 2 ^ 40)
  rounded i j o q = rounded_reach (entry_of mid i j) (entry_of rad i j) (s.nonnegative i j o (rw square q))

  -- the radii of a row may be added to its diagonal entry
  pub sums_movable : (m r : Matrix) → HasEnclosures (length mid.rows) (length mid.rows) (rounded_sum mid rad) m r → IsMovable m r
  sums_movable m r h = record {
    square = h.mids.cols ∙ sym h.mids.rows;
    rows = h.rads.rows ∙ sym h.mids.rows;
    cols = h.rads.cols ∙ sym h.mids.rows;
    room = λ i l.
        (let n = length mid.rows in
        let o : i < n = rw (← h.mids.rows) l in
        rw h.mids.rows (under (own_room n (entry_of m i) (entry_of r i) i _ o (through (amount_mono n _ (far_entry mid rad i) (λ j q.
        same (ap₂ (λ (z : ℤ) (w : ℤ). unsigned_abs z + unsigned_abs w) (h.mids.entries i j o q) (h.rads.entries i j o q)) (rounded i j o q).0)) (room i o)))));
  }
    where
      under : {x : ℕ} → x ≤ 2 ^ 126 → x < 2 ^ 127
      under {x} h = omega (arith, h)

      same : {x y t : ℕ} → x ≡ y → y ≤ t → x ≤ t
      same {x} {y} {t} e h = omega (arith, e, h)

      through : {x y t : ℕ} → x ≤ y → y ≤ t → x ≤ t
      through {x} {y} {t} h k = omega (arith, h, k)

  pub sums_raised : (m r w : Matrix) → HasEnclosures (length mid.rows) (length mid.rows) (rounded_sum mid rad) m r →
      HasEntries (length m.rows) (length m.rows) (raised_diagonal (entry_of m) (λ i. size (length m.rows) (entry_of r i))) w →
      HasEntries (length mid.rows) (length mid.rows) (sums_matrix true mid rad) w
  sums_raised m r w h g = record {
    rows = g.rows ∙ h.mids.rows;
    cols = g.cols ∙ h.mids.rows;
    even = rw h.mids.rows at g.even;
    entries = λ i j o q. g.entries i j (rw h.mids.rows o) (rw h.mids.rows q) ∙
        raised_same (entry_of m) (λ i j. (rounded_sum mid rad i j).mid) (λ i. size (length m.rows) (entry_of r i)) (λ i. size (length mid.rows) (λ j. (rounded_sum mid rad i j).rad)) i j
        (h.mids.entries i j o q) (rw h.mids.rows (size_same (length mid.rows) (entry_of r i) (λ j. (rounded_sum mid rad i j).rad) (λ l t. h.rads.entries i l o t)));
  }

  -- what a row of the matrix comes to
  pub sums_size : (fine : Bool) (i t : ℕ) → i < length mid.rows → amount (length mid.rows) (far_entry mid rad i) ≤ t → size (length mid.rows) (sums_matrix fine mid rad i) ≤ row_quantity fine t (length mid.rows)
  sums_size true i t o h =
      let n = length mid.rows in
      let e = rounded_sum mid rad i in
      together n (amount n (λ j. unsigned_abs (e j).mid + unsigned_abs (e j).rad)) _ (raised_size n (λ i j. (rounded_sum mid rad i j).mid) (λ i. size n (λ j. (rounded_sum mid rad i j).rad)) i)
      (reach_split n (λ j. (e j).mid) (λ j. (e j).rad))
      (scaled (2 ^ 40) _ (amount n (far_entry mid rad i)) (amount_scale n (2 ^ 40) (λ j. unsigned_abs (e j).mid + unsigned_abs (e j).rad)) (amount_mono n _ (λ j. far_entry mid rad i j + 3 * 2 ^ 40) (λ j q. (rounded i j o q).1))
      (amount_add n (far_entry mid rad i) (λ j. 3 * 2 ^ 40)) (amount_most n (λ j. 3 * 2 ^ 40) (3 * 2 ^ 40) (λ j l. itself (3 * 2 ^ 40)))) h
    where
      itself : (n : ℕ) → n ≤ n
      itself n = omega arith

      scaled : (t b v : ℕ) {a u w z : ℕ} → a ≡ t * b → a ≤ u → u ≡ v + w → w ≤ z → t * b ≤ v + z
      scaled t b v {a} {u} {w} {z} e h g k = omega (arith, e, h, g, k)

      together : (n e t : ℕ) {b c r : ℕ} → b ≤ c → c ≡ e → 2 ^ 40 * e ≤ t + n * (3 * 2 ^ 40) → t ≤ r → b ≤ ceil_div r (2 ^ 40) + 4 * n
      together n e t {b} {c} {r} k l o q = omega (arith, k, l, o, q)
  sums_size false i t o h = through (amount_mono (length mid.rows) _ (far_entry mid rad i) (λ j q. nearer _ _)) h
    where
      nearer : (a b : ℕ) → a ≤ a + b
      nearer a b = omega arith

      through : {x y t : ℕ} → x ≤ y → y ≤ t → x ≤ t
      through {x} {y} {t} h k = omega (arith, h, k)

-- ---- of a condensed form
module _ (fine : Bool) (p : DesignParts) (c : Condensed) (f : IsFormIn fine p c) where
  pub form_enclosures : AreEnclosures c.g c.g_rad
  form_enclosures = record {
    rows = f.shapes.g_rad.rows ∙ sym f.shapes.g.rows;
    cols = f.shapes.g_rad.cols ∙ sym f.shapes.g.cols;
    nonnegative = λ i j o q. f.radii.g i j (rw (← f.shapes.g.rows) o) (rw (← f.shapes.g.cols) q);
  }

  signed : (l j : ℕ) → l < length c.g.rows → j < c.g.cols → pos 0 ≤ℤ (enclosure_at c.g c.g_rad l j).rad
  signed l j t q = f.radii.g l j (rw (← f.shapes.g.rows) t) (rw (← f.shapes.g.cols) q)

  far_row : (i : ℕ) → i < c.g.cols → amount c.g.cols (λ j. amount (length c.g.rows) (far_product (enclosure_at c.g c.g_rad) i j)) ≤ rows_in fine (design_of p)
  far_row i o = rw (f.shapes.g.cols, f.shapes.g.rows) (products_row fine p c f i (rw (← f.shapes.g.cols) o))

  far_pair : (i j : ℕ) → i < c.g.cols → j < c.g.cols → amount (length c.g.rows) (far_product (enclosure_at c.g c.g_rad) i j) ≤ rows_in fine (design_of p)
  far_pair i j o q = rw f.shapes.g.rows (products_pair fine p c f i j (rw (← f.shapes.g.cols) o) (rw (← f.shapes.g.cols) q))

  module _ (weight : ℕ → ℕ) (mid rad : Matrix) (s : AreRowSums c weight mid rad) where
    -- a row that counts more often leaves room
    pub room_for : (more : ℕ → ℕ) (i count most : ℕ) → i < length c.g.rows → count < 2 ^ 32 → more i ≡ weight i + count → ((l : ℕ) → l < length c.g.rows → l ≢ i → more l ≡ weight l) →
        ((l : ℕ) → l < length c.g.rows → more l ≤ most) → most * rows_in fine (design_of p) ≤ 2 ^ 126 → HasRoomFor mid rad c.g c.g_rad i count
    room_for more i count most o k e g h room = record {
      rows = s.mids.rows;
      cols = s.mids.cols;
      inside = o;
      multiples = λ j q. small count _ k (far_plan_small fine p c f i j (rw (← f.shapes.g.rows) o) (rw (← f.shapes.g.cols) q));
      sums = λ j l q r. under (far_entry mid rad j l) count (far_entry c.g c.g_rad i j) (far_entry c.g c.g_rad i l)
          (more_reach c.g.cols (length c.g.rows) (enclosure_at c.g c.g_rad) signed weight mid rad s more i count most o e g h j l q r)
          (mul-le-mul_left most (far_pair j l q r)) room;
    }
      where
        small : (k f : ℕ) → k < 2 ^ 32 → f ≤ 2 ^ 63 → k * f < 2 ^ 127
        small k f h l = let q = mul-le-mul {n₁ = k} {m₁ = f} {n₂ = 2 ^ 32} {m₂ = 2 ^ 63} (omega (arith, h)) l in omega (arith, q)

        under : (s k a b : ℕ) {t u : ℕ} → s + k * (a * b) ≤ t → t ≤ u → u ≤ 2 ^ 126 → s + k * a * b < 2 ^ 127
        under s k a b {t} {u} h g l = let q : k * a * b ≡ k * (a * b) = omega arith in omega (arith, q, h, g, l)

    module _ (most : ℕ) (h : (l : ℕ) → l < length c.g.rows → weight l ≤ most) (room : most * rows_in fine (design_of p) ≤ 2 ^ 126) where
      reach : (i : ℕ) → i < length mid.rows → amount (length mid.rows) (far_entry mid rad i) ≤ most * rows_in fine (design_of p)
      reach i o =
          let q : i < c.g.cols = rw (← s.mids.rows) o in
          rw s.mids.rows (through (row_reach c.g.cols (length c.g.rows) (enclosure_at c.g c.g_rad) signed weight mid rad s most h i q) (mul-le-mul_left most (far_row i q)))
        where
          through : {x y z : ℕ} → x ≤ y → y ≤ z → x ≤ z
          through {x} {y} {z} h k = omega (arith, h, k)

      pub have_room : HaveSumRoom mid rad
      have_room i o = through (reach i o) room
        where
          through : {x y z : ℕ} → x ≤ y → y ≤ z → x ≤ z
          through {x} {y} {z} h k = omega (arith, h, k)

-- ---- an entry of the matrix of these sums is that of the design
module _ (p : DesignParts) (c : Condensed) (f : IsFormIn true p c) (weight : ℕ → ℕ) (mid rad : Matrix) (s : AreRowSums c weight mid rad) where
  own : (l i : ℕ) → l < rows (design_of p) → i < entries (design_of p) → enclosure_at c.g c.g_rad l i ≡ row_enclosure (fine_form (design_of p)) l i
  own l i t o = same_pair (f.same.by_plan l i t o) (natural (f.radii.g l i t o) (f.same.plan_radius l i t o))
    where
      natural : {z : ℤ} {r : ℕ} → pos 0 ≤ℤ z → unsigned_abs z ≡ r → z ≡ pos r
      natural {z} {r} h e = omega (arith, ints, h, e)

  product : (i j : ℕ) → i < entries (design_of p) → j < entries (design_of p) → rounded_sum mid rad i j ≡ row_products (fine_form (design_of p)) weight i j
  product i j o q =
      ap (λ (e : Enclosure). divided e (2 ^ 40)) (same_pair (s.mids.entries i j (rw f.shapes.g.cols o) (rw f.shapes.g.cols q)) (s.rads.entries i j (rw f.shapes.g.cols o) (rw f.shapes.g.cols q))) ∙
      rw f.shapes.g.rows (gram_same (rows (design_of p)) (λ l. pos (weight l)) (λ l. pos (weight l)) (enclosure_at c.g c.g_rad) (row_enclosure (fine_form (design_of p))) i j
      (λ l t. refl) (λ l t. (own l i t o, own l j t q)))

entry_is : (fine : Bool) (p : DesignParts) (c : Condensed) → IsFormIn fine p c → (weight : ℕ → ℕ) (mid rad : Matrix) → AreRowSums c weight mid rad → (i j : ℕ) → i < entries (design_of p) → j < entries (design_of p) →
    sums_matrix fine mid rad i j ≡ raised_diagonal (held_by fine (design_of p) weight).products (λ i. amount (entries (design_of p)) ((held_by fine (design_of p) weight).products_radius i)) i j
entry_is true p c f weight mid rad s i j o q =
    let n = entries (design_of p) in
    let held = held_by true (design_of p) weight in
    raised_same (λ i j. (rounded_sum mid rad i j).mid) held.products (λ i. size (length mid.rows) (λ j. (rounded_sum mid rad i j).rad)) (λ i. amount n (held.products_radius i)) i j
    (ap (λ (e : Enclosure). e.mid) (product p c f weight mid rad s i j o q))
    (rw (s.mids.rows, f.shapes.g.cols) (amount_same n (λ j. unsigned_abs (rounded_sum mid rad i j).rad) (held.products_radius i) (λ l t. ap (λ (e : Enclosure). unsigned_abs e.rad) (product p c f weight mid rad s i l o t))))
entry_is false p c f weight mid rad s i j o q =
    let n = entries (design_of p) in
    let held = held_by false (design_of p) weight in
    s.mids.entries i j (rw f.shapes.g.cols o) (rw f.shapes.g.cols q) ∙
    rw f.shapes.g.rows (total_same (rows (design_of p)) _ _ (λ l t. ap₂ (λ (x : ℤ) (y : ℤ). pos (weight l) *ℤ (x *ℤ y)) (f.same.by_plan l i t o) (f.same.by_plan l j t q))) ∙
    sym (raised_none held.products (λ i. amount n (held.products_radius i)) i j (amount_none n (λ l. 0) (λ l t. refl)))

pub row_matrix_is : (fine : Bool) (p : DesignParts) (c : Condensed) (f : IsFormIn fine p c) (weight : ℕ → ℕ) (mid rad : Matrix) (s : AreRowSums c weight mid rad) (e : AreEnclosures mid rad)
    (most : ℕ) → ((l : ℕ) → l < length c.g.rows → weight l ≤ most) → most * rows_in fine (design_of p) ≤ 2 ^ 126 → (m : Matrix) →
    HasEntries (length mid.rows) (length mid.rows) (sums_matrix fine mid rad) m → IsRowMatrix fine (design_of p) weight (row_quantity fine (most * rows_in fine (design_of p)) (entries (design_of p))) m
row_matrix_is fine p c f weight mid rad s e most h room m k = record {
  is = record {
    rows = k.rows ∙ count;
    cols = k.cols ∙ count;
    even = rw count at k.even;
    entries = λ i j o q. k.entries i j (rw count o) (rw count q) ∙ entry_is fine p c f weight mid rad s i j o q;
  };
  row = λ i o.
      (let q : i < length mid.rows = rw count o in
      rw (← count) (under (size_same (length mid.rows) (entry_of m i) (sums_matrix fine mid rad i) (λ j t. k.entries i j q t))
      (sums_size mid rad e (s.mids.cols ∙ sym s.mids.rows) (have_room fine p c f weight mid rad s most h room) fine i _ q (reach fine p c f weight mid rad s most h room i q))));
}
  where
    count : length mid.rows ≡ entries (design_of p)
    count = s.mids.rows ∙ f.shapes.g.cols

    under : {x y z : ℕ} → x ≡ y → y ≤ z → x ≤ z
    under {x} {y} {z} e h = omega (arith, e, h)

-- ---- where each row counts once
once_most : (l : ℕ) → 1 ≤ 1
once_most l = omega arith

once_limit : (n : ℕ) → n ≤ 2 ^ 126 → 1 * n ≤ 2 ^ 126
once_limit n h = omega (arith, h)

once_quantity : (fine : Bool) (d : Design) → row_quantity fine (1 * rows_in fine d) (entries d) ≡ product_row_in fine d
once_quantity true d = ap (λ (n : ℕ). ceil_div n (2 ^ 40) + 4 * entries d) (one-mul (rows_in true d))
once_quantity false d = one-mul (rows_in false d)

module _ (fine : Bool) (p : DesignParts) (c : Condensed) (f : IsFormIn fine p c) (mid rad : Matrix) (s : AreRowSums c (λ l. 1) mid rad) where
  pub once_room : HaveSumRoom mid rad
  once_room = have_room fine p c f (λ l. 1) mid rad s 1 (λ l t. once_most l) (once_limit _ f.sizes.limit_room)

  pub once_matrix_is : AreEnclosures mid rad → (m : Matrix) → HasEntries (length mid.rows) (length mid.rows) (sums_matrix c.fine mid rad) m →
      IsRowMatrix fine (design_of p) (λ l. 1) (product_row_in fine (design_of p)) m
  once_matrix_is e m h = rw (← (once_quantity fine (design_of p)))
      (row_matrix_is fine p c f (λ l. 1) mid rad s e 1 (λ l t. once_most l) (once_limit _ f.sizes.limit_room) m (rw f.class at h))

-- ---- where the first rows count once
first_inside : (i l : ℕ) → l < i → first_rows i l ≡ 1
first_inside i l h = rw (lt-ltb l i h) refl

first_outside : (i l : ℕ) → i ≤ l → first_rows i l ≡ 0
first_outside i l h = rw (le-ltb l i h) refl

first_more : (i l : ℕ) → l ≢ i → first_rows (i + 1) l ≡ first_rows i l
first_more i l h = elim (cases_lt l i) [
  | inl o ↦ first_inside (i + 1) l (omega arith) ∙ sym (first_inside i l o)
  | inr o ↦ first_outside (i + 1) l (omega arith) ∙ sym (first_outside i l o)
]

first_most : (i l : ℕ) → first_rows i l ≤ 1
first_most i l = elim (cases_lt l i) [ inl o ↦ rw (first_inside i l o) (omega arith) | inr o ↦ rw (first_outside i l o) (omega arith) ]

module _ (c : Condensed) where
  pub first_none : (a b : Matrix) → a ≡ zero_matrix c.g.cols c.g.cols → b ≡ zero_matrix c.g.cols c.g.cols → AreRowSums c (first_rows 0) a b
  first_none a b e g = sums_same c.g.cols (length c.g.rows) (enclosure_at c.g c.g_rad) (λ l. 0) (first_rows 0) a b (λ l t. sym (first_outside 0 l (omega arith)))
      (sums_none c.g.cols (length c.g.rows) (enclosure_at c.g c.g_rad) a b e g)

  pub first_all : (i : ℕ) (a b : Matrix) → length c.g.rows ≤ i → AreRowSums c (first_rows i) a b → AreRowSums c (λ l. 1) a b
  first_all i a b h s = sums_same c.g.cols (length c.g.rows) (enclosure_at c.g c.g_rad) (first_rows i) (λ l. 1) a b (λ l t. first_inside i l (omega (arith, h, t))) s

  next : (i : ℕ) → first_rows (i + 1) i ≡ first_rows i i + 1
  next i = first_inside (i + 1) i (omega arith) ∙ sym (ap (λ (k : ℕ). k + 1) (first_outside i i (omega arith)))

  pub first_next : (i : ℕ) (mid rad a b : Matrix) → i < length c.g.rows → AreRowSums c (first_rows i) mid rad →
      HasEnclosures c.g.cols c.g.cols (more_sum mid rad (enclosure_at c.g c.g_rad i) 1) a b → AreRowSums c (first_rows (i + 1)) a b
  first_next i mid rad a b o s k = sums_more c.g.cols (length c.g.rows) (enclosure_at c.g c.g_rad) (first_rows i) (first_rows (i + 1)) i 1 o (next i) (λ l t h. first_more i l h) mid rad a b s k

pub first_room : (fine : Bool) (p : DesignParts) (c : Condensed) → IsFormIn fine p c → (i : ℕ) (mid rad : Matrix) → i < length c.g.rows → AreRowSums c (first_rows i) mid rad →
    HasRoomFor mid rad c.g c.g_rad i 1
first_room fine p c f i mid rad o s = room_for fine p c f (first_rows i) mid rad s (first_rows (i + 1)) i 1 1 o (omega arith) (next c i) (λ l t h. first_more i l h)
    (λ l t. first_most (i + 1) l) (once_limit _ f.sizes.limit_room)
