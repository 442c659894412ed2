-- Lists of enclosures, as they grow and as they are cut.
use Rattle.std.proofs.Common.{◌≡◌, ℕ, ◌+◌, ◌-◌, ◌^◌, ◌<◌, ◌≤◌, ◌++◌, [], ◌∷◌, List, ℤ, pos, ◌*ℤ◌, ◌≤ℤ◌, length, map, take, drop, below_more, inl, inr, ◌*◌, ◌/◌, ◌%◌, arith, ap, ap₂, subst, sym, ◌∙◌, refl}
use Rattle.std.proofs.lemmas.Int.{ints}
use Rattle.std.proofs.lemmas.Bool.{cases_lt, lt-ltb, le-ltb}
use Rattle.std.proofs.lemmas.List.{length_push, get_or_push, get_or_append_left, get_or-append_right, length-map, map-append, length-append, get_or-take, get_or-drop, length-take, length-drop}
use Rattle.integer_algebra.specs.Bounds.{absolute}
use Rattle.integer_algebra.specs.Sums.{at}
use Rattle.integer_algebra.proofs.SumLaws.{total_same}
use Rattle.std.proofs.lemmas.Nat.{div-mul-add, mod-mul-add}
use Rattle.frac_scaled.specs.Enclosures.{Enclosure, magnitude, divided}
use Rattle.mat_int.specs.Enclosures.{combined, combination_magnitude}
use Rattle.mat_int.specs.Matrix.{Matrix, row_of, entry_of}
use Rattle.enclosure.specs.declared.types.Enc.{Enc}
use Rattle.enclosure.specs.Values.{pair, pair_at}
use Rattle.enclosure.proofs.RoomLaws.{same_pair}
use Rattle.enclosure.proofs.SumLaws.{pair_at_is}
use Rattle.qp_model.specs.problem.Design.{Design}
use Rattle.qp_model.specs.form.FineForm.{followed, fine_run}
use Rattle.scaled_run.specs.Lists.{HoldsEnclosures}

zero : Enc
zero = record { mid = pos 0; rad = pos 0; nonnegative = omega (arith, ints) }

-- ---- growing
-- one more
pub one_pushed : (out new : List Enc) (x : Enc) (i : ℕ) (f : ℕ → Enclosure) → new ≡ out ++ x ∷ [] → pair x ≡ f i → HoldsEnclosures out i f → HoldsEnclosures new (i + 1) f
one_pushed out new x i f e h p = rw e (record {
  long = length_push out x ∙ ap (λ n. n + 1) p.long;
  is = below_more _ _ (λ k l. rw (map-append pair out (x ∷ [])) (get_or_append_left (map pair out) (pair x ∷ []) _ k (mapped out k l p.long)) ∙ p.is k l)
      (rw (map-append pair out (x ∷ [])) (get_or_push (map pair out) (pair x) _ i (length-map out pair ∙ p.long)) ∙ h);
})
  where
    mapped : (out : List Enc) (k : ℕ) → k < i → length out ≡ i → k < length (map pair out)
    mapped out k l e = omega (arith, length-map out pair)

-- ---- sums over values that are equal
pub combined_same : (n : ℕ) (c e : ℕ → ℤ) (x y : ℕ → Enclosure) (d : ℕ) → ((i : ℕ) → i < n → c i ≡ e i) → ((i : ℕ) → i < n → x i ≡ y i) → combined n c x d ≡ combined n e y d
combined_same n c e x y d h k = ap (λ (z : Enclosure). divided z d)
    (same_pair (total_same n _ _ (λ i l. ap₂ (λ (a b : ℤ). a *ℤ b) (h i l) (ap (λ (z : Enclosure). z.mid) (k i l))))
    (total_same n _ _ (λ i l. ap₂ (λ (a b : ℤ). absolute a *ℤ b) (h i l) (ap (λ (z : Enclosure). z.rad) (k i l)))))

pub magnitude_same : (n : ℕ) (c e : ℕ → ℤ) (x y : ℕ → Enclosure) → ((i : ℕ) → i < n → c i ≡ e i) → ((i : ℕ) → i < n → x i ≡ y i) → combination_magnitude n c x ≡ combination_magnitude n e y
magnitude_same n c e x y h k = total_same n _ _ (λ i l. ap₂ (λ (a : ℤ) (z : Enclosure). absolute a *ℤ magnitude z) (h i l) (k i l))

-- ---- one list after another
pub joined_at : (a b xs : List ℤ) (j : ℕ) → xs ≡ a ++ b → at xs j ≡ followed (length a) (at a) (at b) j
joined_at a b xs j e = rw e (elim (cases_lt j (length a)) [
  | inl m ↦ rw (lt-ltb j (length a) m) (get_or_append_left a b (pos 0) j m)
  | inr m ↦ rw (le-ltb j (length a) m) (get_or-append_right a b (length a) j (pos 0) refl m)
])

pub joined_pairs : (a b xs : List Enc) (j : ℕ) → xs ≡ a ++ b → pair_at xs j ≡ followed (length a) (pair_at a) (pair_at b) j
joined_pairs a b xs j e = rw (e, map-append pair a b) (elim (cases_lt j (length a)) [
  | inl m ↦ rw (lt-ltb j (length a) m) (get_or_append_left (map pair a) (map pair b) _ j (rw (length-map a pair) m))
  | inr m ↦ rw (le-ltb j (length a) m) (get_or-append_right (map pair a) (map pair b) (length a) j _ (length-map a pair) m)
])

pub joined_length : (a b xs : List ℤ) (n p : ℕ) → xs ≡ a ++ b → length a ≡ n → length b ≡ p → length xs ≡ n + p
joined_length a b xs n p e h k = rw (e, length-append, h, k) refl

-- more of them
pub appended : (out new xs : List Enc) (m n : ℕ) (f : ℕ → Enclosure) → new ≡ out ++ xs → HoldsEnclosures xs n (λ i. f (m + i)) → HoldsEnclosures out m f → HoldsEnclosures new (m + n) f
appended out new xs m n f e h p = rw e (record {
  long = length-append out xs ∙ ap₂ (λ (a b : ℕ). a + b) p.long h.long;
  is = λ i l. rw (map-append pair out xs) (elim (cases_lt i m) [
    | inl o ↦ get_or_append_left (map pair out) (map pair xs) _ i (rw (length-map out pair, p.long) o) ∙ p.is i o
    | inr o ↦ get_or-append_right (map pair out) (map pair xs) m i _ (length-map out pair ∙ p.long) o ∙ h.is (i - m) (omega arith) ∙ ap f (back i m o)
  ]);
})
  where
    back : (i m : ℕ) → m ≤ i → m + (i - m) ≡ i
    back i m o = omega arith

-- ---- the n of them at a
part_length : (xs : List Enc) (a n : ℕ) → a + n ≤ length xs → length (take n (drop a xs)) ≡ n
part_length xs a n h = simp (length-take, length-drop) (omega arith)

pub part : (xs : List Enc) (a n m : ℕ) (f g : ℕ → Enclosure) → a + n ≤ m → ((i : ℕ) → i < n → f (a + i) ≡ g i) → HoldsEnclosures xs m f →
    HoldsEnclosures (take (a + n - a) (drop a xs)) n g
part xs a n m f g h k p = rw (cut a n) (record {
  long = part_length xs a n (omega (arith, p.long));
  is = λ i l. pair_at_is (take n (drop a xs)) i zero (rw (part_length xs a n (omega (arith, p.long))) l) ∙
      ap pair (get_or-take n (drop a xs) i zero l ∙ get_or-drop a xs i zero) ∙
      sym (pair_at_is xs (a + i) zero (omega (arith, p.long))) ∙ p.is (a + i) (omega arith) ∙ k i l;
})
  where
    cut : (a n : ℕ) → a + n - a ≡ n
    cut a n = omega arith

-- ---- the run
module _ (d : Design) (x v : ℕ → Enclosure) where
  -- the states, one after another
  abbrev pub flat_run : ℕ → Enclosure
  flat_run s = fine_run d x v (s / d.states) (s % d.states)

  pub flat_at : (k i : ℕ) → i < d.states → flat_run (k * d.states + i) ≡ fine_run d x v k i
  flat_at k i l = ap₂ (λ (a b : ℕ). fine_run d x v a b) (div-mul-add k d.states i l) (mod-mul-add k d.states i l)

  -- of the first stage
  pub first_states : (states start : List Enc) → states ≡ start → length start ≡ d.states → ((i : ℕ) → i < d.states → pair_at start i ≡ x i) →
      HoldsEnclosures states ((0 + 1) * d.states) flat_run
  first_states states start e long h = rw e (record {
    long = long ∙ one d.states;
    is = λ i l. h i (under i d.states l) ∙ sym (flat_at 0 i (under i d.states l)) ∙ ap flat_run (begin d.states i);
  })
    where
      one : (n : ℕ) → n ≡ (0 + 1) * n
      one n = omega arith

      under : (i n : ℕ) → i < (0 + 1) * n → i < n
      under i n l = omega arith

      begin : (n i : ℕ) → 0 * n + i ≡ i
      begin n i = omega arith

-- ---- a row of the plant with a state and an input
module _ (m o : Matrix) (i : ℕ) (xs s u : List Enc) (cs a b : List ℤ) (n p : ℕ) (e : cs ≡ a ++ b) (ea : a ≡ row_of m i) (eb : b ≡ row_of o i) (long : length a ≡ n)
    (f : xs ≡ s ++ u) (hs : length s ≡ n) (hu : length u ≡ p) where
  coefficient : (j : ℕ) → at cs j ≡ followed n (entry_of m i) (entry_of o i) j
  coefficient j = joined_at a b cs j e ∙ rw (long, ea, eb) refl

  number : (j : ℕ) → pair_at xs j ≡ followed n (pair_at s) (pair_at u) j
  number j = joined_pairs s u xs j f ∙ rw hs refl

  count : length xs ≡ n + p
  count = rw (f, length-append, hs, hu) refl

  pub next_room : combination_magnitude (n + p) (followed n (entry_of m i) (entry_of o i)) (followed n (pair_at s) (pair_at u)) ≤ℤ pos (2 ^ 126) →
      combination_magnitude (length xs) (at cs) (pair_at xs) ≤ℤ pos (2 ^ 126)
  next_room h = rw (count, magnitude_same (n + p) (at cs) (followed n (entry_of m i) (entry_of o i)) (pair_at xs) (followed n (pair_at s) (pair_at u)) (λ j l. coefficient j) (λ j l. number j)) h

  pub next_value : (d : ℕ) → combined (length xs) (at cs) (pair_at xs) d ≡ combined (n + p) (followed n (entry_of m i) (entry_of o i)) (followed n (pair_at s) (pair_at u)) d
  next_value d = rw count (combined_same (n + p) (at cs) (followed n (entry_of m i) (entry_of o i)) (pair_at xs) (followed n (pair_at s) (pair_at u)) d (λ j l. coefficient j) (λ j l. number j))

-- the same list, lent
pub lent_holds : {xs ys : List Enc} {n : ℕ} {f : ℕ → Enclosure} → xs ≡ ys → HoldsEnclosures ys n f → HoldsEnclosures xs n f
lent_holds e h = rw e h

-- at the end of a loop
pub all_held : (xs : List Enc) (k n : ℕ) (count : ℕ → ℕ) (f : ℕ → Enclosure) → k ≤ n → n ≤ k → HoldsEnclosures xs (count k) f → HoldsEnclosures xs (count n) f
all_held xs k n count f h l p = subst (λ (m : ℕ). HoldsEnclosures xs (count m) f) (same k n h l) p
  where
    same : (k n : ℕ) → k ≤ n → n ≤ k → k ≡ n
    same k n h l = omega arith

-- ---- a loop over the rows of the plant
pub row_of_rows : (i n m : ℕ) → i < n → n ≤ m → i < m
row_of_rows i n m h l = omega arith

pub same_lengths : (xs a b : List ℤ) (ys s u : List Enc) (n p : ℕ) → xs ≡ a ++ b → ys ≡ s ++ u → length a ≡ n → length b ≡ p → length s ≡ n → length u ≡ p → length xs ≡ length ys
same_lengths xs a b ys s u n p e f ha hb hs hu = joined_length a b xs n p e ha hb ∙ sym (rw (f, length-append, hs, hu) refl)
