-- Opposite rows, whose products are those of one row.
use Rattle.std.proofs.Common.{◌≡◌, ℕ, zero, suc, ◌-◌, ◌*◌, ◌^◌, ◌<◌, ◌≤◌, ◌==◌, Bool, true, false, ◌&&◌, if◌then◌else◌, nat_eq, ltb, ℤ, pos, ◌+ℤ◌, ◌-ℤ◌, ◌*ℤ◌, neg_ℤ, ◌≤ℤ◌, List, [], ◌∷◌, length, unsigned_abs, refl, sym, ap, subst, ◌∙◌, arith, inl, inr, le_refl, true≢false}
use Rattle.std.proofs.lemmas.Bool.{cases_Bool, cases_lt, cases_eq, and_parts, ltb-true, lt-ltb, eqb-true, eq-eqb, ne_eqb, cond-true, cond-false, cond_both, false_from_ne_true}
use Rattle.std.proofs.lemmas.Int.{ints}
use Rattle.std.proofs.lemmas.Nat.{mul-le}
use Rattle.integer_algebra.specs.Division.{floor_of}
use Rattle.integer_algebra.specs.Sums.{total, at}
use Rattle.integer_algebra.specs.Sizes.{amount}
use Rattle.integer_algebra.proofs.Quoting.{by_ring, quotes}
use Rattle.integer_algebra.proofs.SumLaws.{total_same, total_add, total_zero, total_swap}
use Rattle.integer_algebra.proofs.BlockLaws.{total_single}
use Rattle.integer_algebra.proofs.RingLaws.{neg-mul_z}
use Rattle.integer_algebra.proofs.AmountLaws.{amount_mono}
use Rattle.mat_int.specs.Row.{list_dot}
use Rattle.mat_int.specs.Matrix.{row_of}
use Rattle.qp_model.specs.machine.Controller.{Numbers}
use Rattle.qp_model.specs.machine.Machine.{exponent_of, lowering_of, top_of, raised}
use Rattle.qp_model.specs.machine.AbsoluteSums.{weighted_abs_sum, clamp_magnitudes}
use Rattle.qp_model.proofs.MagnitudeLaws.{AreUpToTops}
use Rattle.c_language.specs.Syntax.Family.{Multiplier, Difference}
use Rattle.c_language.specs.Meaning.{Environment, held}
use Rattle.c_program.specs.Of.{are_negated, are_opposed, first_opposed, partner, is_first, is_second, gain_of, gain_variable, multiplier_top}
use Rattle.c_program.proofs.Amounts.{raised_total, raised_amount}

-- ---- what is found
-- rows i and k are a pair
pub record IsPair (c : Numbers) (i k : ℕ) : Type 0 where
  pub order : i < k
  pub inside : k < length c.bounds
  pub first : is_second c i ≡ false
  pub exponent : exponent_of c k ≡ exponent_of c i
  pub row : (j : ℕ) → j < length c.offsets → at (row_of c.plan_rows k) j ≡ neg_ℤ (at (row_of c.plan_rows i) j)
  pub gains : (j : ℕ) → j < length c.offsets → at (row_of c.dual_gains j) k ≡ neg_ℤ (at (row_of c.dual_gains j) i)

negated_at : (f g : ℕ → ℤ) (n : ℕ) → are_negated f g n ≡ true → (j : ℕ) → j < n → f j ≡ neg_ℤ (g j)
negated_at f g zero h j l = absurd (omega (arith, l))
negated_at f g (suc n) h j l =
    let parts = and_parts (are_negated f g n) (unsigned_abs (f n +ℤ g n) == 0) h in
    elim (cases_lt j n) [
      | inl less ↦ negated_at f g n parts.0 j less
      | inr more ↦ (let e : n ≡ j = omega (arith, l, more) in subst (λ (k : ℕ). f k ≡ neg_ℤ (g k)) e (opposite (f n) (g n) (eqb-true (unsigned_abs (f n +ℤ g n)) 0 parts.1)))
    ]
  where
    opposite : (x y : ℤ) → unsigned_abs (x +ℤ y) ≡ 0 → x ≡ neg_ℤ y
    opposite x y h = omega (arith, ints, h)

found_opposed : (c : Numbers) (i n : ℕ) → first_opposed c i n < n → are_opposed c (first_opposed c i n) i ≡ true
found_opposed c i zero h = absurd (omega (arith, h))
found_opposed c i (suc n) h =
    let old = first_opposed c i n in
    let next = if are_opposed c n i then n else suc n in
    elim (cases_Bool (ltb old n)) [
      | inl t ↦ subst (λ (k : ℕ). are_opposed c k i ≡ true) (sym (cond-true (ltb old n) old next t)) (found_opposed c i n (ltb-true old n t))
      | inr f ↦ elim (cases_Bool (are_opposed c n i)) [
        | inl t ↦ subst (λ (k : ℕ). are_opposed c k i ≡ true) (sym (cond-false (ltb old n) old next f ∙ cond-true (are_opposed c n i) n (suc n) t)) t
        | inr g ↦ (let e = cond-false (ltb old n) old next f ∙ cond-false (are_opposed c n i) n (suc n) g in absurd (omega (arith, h, e)))
      ]
    ]

partner_opposed : (c : Numbers) (i : ℕ) → partner c i < length c.bounds → are_opposed c (partner c i) i ≡ true
unfolding partner
partner_opposed c i h = found_opposed c i (length c.bounds) h

first_is : (c : Numbers) (i : ℕ) → is_first c i ≡ (ltb i (partner c i) && ltb (partner c i) (length c.bounds) && (partner c (partner c i) == i))
unfolding is_first
first_is c i = refl

second_is : (c : Numbers) (i : ℕ) → is_second c i ≡ (ltb (partner c i) i && (partner c (partner c i) == i))
unfolding is_second
second_is c i = refl

-- what the flags say
record IsMatched (c : Numbers) (i k : ℕ) : Type 0 where
  to : partner c i ≡ k
  from : partner c k ≡ i
  order : i < k
  inside : k < length c.bounds

first_told : (c : Numbers) (i : ℕ) → is_first c i ≡ true → IsMatched c i (partner c i)
first_told c i h =
    let p = and_parts (ltb i (partner c i) && ltb (partner c i) (length c.bounds)) (partner c (partner c i) == i) (sym (first_is c i) ∙ h) in
    let q = and_parts (ltb i (partner c i)) (ltb (partner c i) (length c.bounds)) p.0 in
    record { to = refl; from = eqb-true (partner c (partner c i)) i p.1; order = ltb-true i (partner c i) q.0; inside = ltb-true (partner c i) (length c.bounds) q.1 }

second_told : (c : Numbers) (k : ℕ) → k < length c.bounds → is_second c k ≡ true → IsMatched c (partner c k) k
second_told c k l h =
    let p = and_parts (ltb (partner c k) k) (partner c (partner c k) == k) (sym (second_is c k) ∙ h) in
    record { to = eqb-true (partner c (partner c k)) k p.1; from = refl; order = ltb-true (partner c k) k p.0; inside = l }

all_three : (a b d : Bool) → a ≡ true → b ≡ true → d ≡ true → (a && b && d) ≡ true
all_three true true true h k l = refl
all_three true true false h k l = l
all_three true false d h k l = absurd (true≢false (sym k))
all_three false b d h k l = absurd (true≢false (sym h))

both_two : (a b : Bool) → a ≡ true → b ≡ true → (a && b) ≡ true
both_two true true h k = refl
both_two true false h k = k
both_two false b h k = absurd (true≢false (sym h))

matched_first : (c : Numbers) (i k : ℕ) → IsMatched c i k → is_first c i ≡ true
matched_first c i k m =
    let e = m.to in
    first_is c i ∙ all_three _ _ _ (lt-ltb i (partner c i) (omega (arith, e, m.order))) (lt-ltb (partner c i) (length c.bounds) (omega (arith, e, m.inside)))
    (eq-eqb (partner c (partner c i)) i (ap (partner c) e ∙ m.from))

matched_second : (c : Numbers) (i k : ℕ) → IsMatched c i k → is_second c k ≡ true
matched_second c i k m =
    let e = m.from in
    second_is c k ∙ both_two _ _ (lt-ltb (partner c k) k (omega (arith, e, m.order))) (eq-eqb (partner c (partner c k)) k (ap (partner c) e ∙ m.to))

pub pair_there : (c : Numbers) (i : ℕ) → is_first c i ≡ true → IsPair c i (partner c i)
pair_there c i h =
    let m = first_told c i h in
    let k = partner c i in
    let q = and_parts _ (are_negated (λ j. at (row_of c.dual_gains j) k) (λ j. at (row_of c.dual_gains j) i) (length c.offsets)) (partner_opposed c i m.inside) in
    let r = and_parts (exponent_of c k == exponent_of c i) (are_negated (at (row_of c.plan_rows k)) (at (row_of c.plan_rows i)) (length c.offsets)) q.0 in
    record {
      order = m.order;
      inside = m.inside;
      first = false_from_ne_true (is_second c i) (λ t. absurd (omega (arith, m.order, (second_told c i (omega (arith, m.order, m.inside)) t).order)));
      exponent = eqb-true (exponent_of c k) (exponent_of c i) r.0;
      row = negated_at _ _ (length c.offsets) r.1;
      gains = negated_at _ _ (length c.offsets) q.1;
    }

-- the second row of a pair
pub record IsLater (c : Numbers) (i : ℕ) : Type 0 where
  pub first : is_first c (partner c i) ≡ true
  pub pair : IsPair c (partner c i) i

pub later_there : (c : Numbers) (i : ℕ) → i < length c.bounds → is_second c i ≡ true → IsLater c i
later_there c i l h =
    let m = second_told c i l h in
    let f = matched_first c (partner c i) i m in
    record { first = f; pair = subst (IsPair c (partner c i)) m.to (pair_there c (partner c i) f) }

-- ---- the multipliers of a pair
pub same_top : (c : Numbers) (i k : ℕ) → IsPair c i k → top_of c k ≡ top_of c i
same_top c i k p = ap (λ (s : ℕ). floor_of c.clamp (2 ^ (c.step_exponent - s))) p.exponent

-- ---- the products of a pair's columns
-- what stands for the multiplier of each row
pub record Stand (c : Numbers) (multipliers : List ℤ) (e : Environment) : Type 0 where
  pub alone : (i : ℕ) → i < length c.bounds → e Multiplier i ≡ at multipliers i
  pub pairs : (i : ℕ) → i < length c.bounds → is_first c i ≡ true → e Difference i ≡ at multipliers i -ℤ at multipliers (partner c i)

gain_at : Numbers → ℕ → ℕ → ℤ
gain_at c j i = at (row_of c.dual_gains j) i *ℤ pos (2 ^ lowering_of c i)

gain_negated : (c : Numbers) (j i k : ℕ) → j < length c.offsets → IsPair c i k → gain_at c j k ≡ neg_ℤ (gain_at c j i)
unfolding gain_at
gain_negated c j i k l p =
    ap (λ (s : ℕ). at (row_of c.dual_gains j) k *ℤ pos (2 ^ (c.step_exponent - s))) p.exponent ∙
    ap (λ (z : ℤ). z *ℤ pos (2 ^ lowering_of c i)) (p.gains j l) ∙ neg-mul_z (at (row_of c.dual_gains j) i) (pos (2 ^ lowering_of c i))

by_case : (b a : Bool) (w l wn ln z : ℤ) → (a ≡ true → b ≡ false) → (a ≡ true → z ≡ l -ℤ ln) → (a ≡ true → wn ≡ neg_ℤ w) → (a ≡ false → z ≡ l) →
    (if b then pos 0 else w) *ℤ z ≡ (if b then pos 0 else w *ℤ l) +ℤ (if a then wn *ℤ ln else pos 0)
by_case true true w l wn ln z h x y k = absurd (true≢false (h refl))
by_case true false w l wn ln z h x y k = omega (arith, ints)
by_case false true w l wn ln z h x y k = rw (x refl, y refl) (shared w l ln)
  where
    shared : (w l ln : ℤ) → w *ℤ (l -ℤ ln) ≡ w *ℤ l +ℤ neg_ℤ w *ℤ ln
    shared w l ln = by_ring (w ∷ l ∷ ln ∷ []) (search quotes depth 60 fits 20000) refl
by_case false false w l wn ln z h x y k = rw (k refl) (omega (arith, ints))

-- the product of each row with its multiplier
term_of : Numbers → (j : ℕ) → List ℤ → ℕ → ℤ
term_of c j multipliers i = gain_at c j i *ℤ at multipliers i

one_gain : (c : Numbers) (multipliers : List ℤ) (e : Environment) (j i : ℕ) → j < length c.offsets → i < length c.bounds → Stand c multipliers e →
    gain_of c j i *ℤ held e (gain_variable c i) ≡ (if is_second c i then pos 0 else term_of c j multipliers i) +ℤ (if is_first c i then term_of c j multipliers (partner c i) else pos 0)
unfolding term_of gain_at
one_gain c multipliers e j i l m s =
    by_case (is_second c i) (is_first c i) (gain_at c j i) (at multipliers i) (gain_at c j (partner c i)) (at multipliers (partner c i)) (held e (gain_variable c i))
    (λ t. (pair_there c i t).first)
    (λ t. ap (λ (b : Bool). e (if b then Difference else Multiplier) i) t ∙ s.pairs i m t)
    (λ t. gain_negated c j i (partner c i) l (pair_there c i t))
    (λ t. ap (λ (b : Bool). e (if b then Difference else Multiplier) i) t ∙ s.alone i m)

-- a sum over the second rows is one over the first rows
-- the product at place k, where k is the second row of row i's pair
crossed : Numbers → (ℕ → ℤ) → ℕ → ℕ → ℤ
crossed c f i k = if is_first c i then (if nat_eq k (partner c i) then f k else pos 0) else pos 0

crossed_also : (c : Numbers) (f : ℕ → ℤ) (i k : ℕ) → i < length c.bounds → k < length c.bounds →
    crossed c f i k ≡ (if is_second c k then (if nat_eq i (partner c k) then f k else pos 0) else pos 0)
unfolding crossed
crossed_also c f i k l m = elim (cases_Bool (is_first c i)) [
  | inl a ↦ (let t = first_told c i a in elim (cases_eq k (partner c i)) [
    | inl e ↦ (let u = subst (IsMatched c i) (sym e) t in rw (a, matched_second c i k u, eq-eqb k (partner c i) e, eq-eqb i (partner c k) (sym u.from)) refl)
    | inr n ↦ rw (a, ne_eqb k (partner c i) n) (sym (elim (cases_Bool (is_second c k)) [
      | inl b ↦ rw (b, ne_eqb i (partner c k) (λ e. n (sym (ap (partner c) e ∙ (second_told c k m b).to)))) refl
      | inr b ↦ rw b refl
    ]))
  ])
  | inr a ↦ rw a (sym (elim (cases_Bool (is_second c k)) [
    | inl b ↦ rw (b, ne_eqb i (partner c k) (λ e. true≢false (sym (subst (λ (n : ℕ). is_first c n ≡ true) (sym e) (matched_first c (partner c k) k (second_told c k m b))) ∙ a))) refl
    | inr b ↦ rw b refl
  ]))
]

pairs_total : (c : Numbers) (f : ℕ → ℤ) →
    total (length c.bounds) (λ i. if is_first c i then f (partner c i) else pos 0) ≡ total (length c.bounds) (λ k. if is_second c k then f k else pos 0)
unfolding crossed
pairs_total c f =
    let m = length c.bounds in
    total_same m (λ i. if is_first c i then f (partner c i) else pos 0) (λ i. total m (λ k. crossed c f i k)) (λ i l. elim (cases_Bool (is_first c i)) [
      | inl a ↦ rw a (sym (total_single m (partner c i) f (first_told c i a).inside))
      | inr a ↦ rw a (sym (total_zero m))
    ]) ∙
    total_swap m m (crossed c f) ∙
    total_same m (λ k. total m (λ i. crossed c f i k)) (λ k. if is_second c k then f k else pos 0) (λ k l.
    total_same m (λ i. crossed c f i k) (λ i. if is_second c k then (if nat_eq i (partner c k) then f k else pos 0) else pos 0) (λ i n. crossed_also c f i k n l) ∙
    elim (cases_Bool (is_second c k)) [
      | inl b ↦ rw b (total_single m (partner c k) (λ i. f k) (omega (arith, (second_told c k l b).order, l)))
      | inr b ↦ rw b (total_zero m)
    ])

pub gains_are : (c : Numbers) (multipliers : List ℤ) (e : Environment) (j : ℕ) → j < length c.offsets → length (row_of c.dual_gains j) ≡ length c.bounds → Stand c multipliers e →
    total (length c.bounds) (λ i. gain_of c j i *ℤ held e (gain_variable c i)) ≡ list_dot (row_of c.dual_gains j) (raised c multipliers)
unfolding term_of gain_at
gains_are c multipliers e j l long s =
    let m = length c.bounds in
    let f = term_of c j multipliers in
    let alone = λ (i : ℕ). if is_second c i then pos 0 else f i in
    let later = λ (i : ℕ). if is_second c i then f i else pos 0 in
    let moved = λ (i : ℕ). if is_first c i then f (partner c i) else pos 0 in
    total_same m (λ i. gain_of c j i *ℤ held e (gain_variable c i)) (λ i. alone i +ℤ moved i) (λ i k. one_gain c multipliers e j i l k s) ∙ total_add m alone moved ∙
    ap (λ (z : ℤ). total m alone +ℤ z) (pairs_total c f) ∙ sym (total_add m alone later) ∙ total_same m (λ i. alone i +ℤ later i) f (λ i k. split (is_second c i) (f i)) ∙
    raised_total c (row_of c.dual_gains j) multipliers (at multipliers) long (λ i k. refl)
  where
    split : (b : Bool) (z : ℤ) → (if b then pos 0 else z) +ℤ (if b then z else pos 0) ≡ z
    split true z = omega (arith, ints)
    split false z = omega (arith, ints)

-- ---- their sizes
pub less_gain : (b : Bool) (w : ℤ) → unsigned_abs (if b then pos 0 else w) ≤ unsigned_abs w
less_gain true w = omega arith
less_gain false w = le_refl (unsigned_abs w)

pub gains_amount : (c : Numbers) (j : ℕ) → pos 0 ≤ℤ c.clamp → length (row_of c.dual_gains j) ≡ length c.bounds →
    amount (length c.bounds) (λ i. unsigned_abs (gain_of c j i) * multiplier_top c i) ≤ weighted_abs_sum (row_of c.dual_gains j) (clamp_magnitudes c)
gains_amount c j h long =
    let gain = λ (i : ℕ). at (row_of c.dual_gains j) i *ℤ pos (2 ^ lowering_of c i) in
    omega (
      arith,
      raised_amount c (row_of c.dual_gains j) h long,
      amount_mono (length c.bounds) (λ i. unsigned_abs (gain_of c j i) * multiplier_top c i) (λ i. unsigned_abs (gain i) * multiplier_top c i)
          (λ i l. mul-le (unsigned_abs (gain_of c j i)) (multiplier_top c i) (unsigned_abs (gain i)) (multiplier_top c i) (less_gain (is_second c i) (gain i)) (le_refl (multiplier_top c i))),
    )

-- multipliers from 0 to the greatest of each row
pub record AreMultipliers (c : Numbers) (multipliers : List ℤ) : Type 0 where
  pub tops : AreUpToTops c multipliers
  pub nonneg : (i : ℕ) → pos 0 ≤ℤ at multipliers i

pub difference_le : (c : Numbers) (multipliers : List ℤ) (i k : ℕ) → AreMultipliers c multipliers → IsPair c i k → unsigned_abs (at multipliers i -ℤ at multipliers k) ≤ multiplier_top c i
difference_le c multipliers i k r p =
    apart (at multipliers i) (at multipliers k) (multiplier_top c i) (r.nonneg i) (r.nonneg k) (r.tops.each i)
    (subst (λ (t : ℤ). unsigned_abs (at multipliers k) ≤ unsigned_abs t) (same_top c i k p) (r.tops.each k))
  where
    apart : (x y : ℤ) (t : ℕ) → pos 0 ≤ℤ x → pos 0 ≤ℤ y → unsigned_abs x ≤ t → unsigned_abs y ≤ t → unsigned_abs (x -ℤ y) ≤ t
    apart x y t h k l m = omega (arith, ints, h, k, l, m)

pub gain_variable_le : (c : Numbers) (multipliers : List ℤ) (e : Environment) (i : ℕ) → i < length c.bounds → AreMultipliers c multipliers → Stand c multipliers e →
    unsigned_abs (held e (gain_variable c i)) ≤ multiplier_top c i
gain_variable_le c multipliers e i l r s =
    cond_both (is_first c i) Difference Multiplier (λ f. unsigned_abs (e f i) ≤ multiplier_top c i)
    (λ t. rw (s.pairs i l t) (difference_le c multipliers i (partner c i) r (pair_there c i t)))
    (λ t. rw (s.alone i l) (r.tops.each i))
