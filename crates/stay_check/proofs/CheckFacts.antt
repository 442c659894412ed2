-- Faces hold, or have one first fault.
use Rattle.std.proofs.Common.{◌≡◌, ◌≢◌, inl, inr, ℕ, ◌+◌, ◌-◌, ◌<◌, ◌≤◌, List, ℤ, pos, Result, Ok, Err, subst, arith, ap, sym, ◌∙◌, refl}
use Rattle.std.specs.Prelude.{IfOk, IfErr, replicate}
use Rattle.std.proofs.lemmas.Bool.{cases_lt}
use Rattle.std.proofs.lemmas.List.{get_or-replicate, get_or_past, length-replicate}
use Rattle.integer_algebra.specs.Sums.{at, none}
use Rattle.qp_model.specs.problem.Design.{Design}
use Rattle.stay_check.specs.FaceForms.{Face, FaceNumbers, face_of, input_of_rows, input_of_coordinate, FaceHolds}
use Rattle.stay_check.specs.Staying.{KeepsInBox}
use Rattle.stay_check.specs.Answers.{IsFirstUnequal, IsUnequalFault, IsFaceFault, IsFacesFault, IsStayFault, Stays}
use Rattle.stay_check.specs.declared.fault.StayFault.{StayFault}
use Rattle.stay_check.specs.declared.fault.StayFault.TheVariants.{TooWide, Unequal, NoStay}

-- ---- a face
pub unequal_fault : (d : Design) (f : Face) (e l entry input : ℕ) (left right : ℤ) → entry ≡ e + 1 → input ≡ l + 1 → l < d.inputs →
    ((k : ℕ) → k < l → input_of_rows d f k ≡ input_of_coordinate d f k) → left ≡ input_of_rows d f l → right ≡ input_of_coordinate d f l → left ≢ right →
    IsUnequalFault d f (e + 1) (Unequal entry input left right)
unequal_fault d f e l entry input left right h k m before is are differ =
    let place : input - 1 ≡ l = omega (arith, k) in (
      h,
      record {
        low = omega (arith, k);
        high = omega (arith, k, m);
        before = λ j n. before j (omega (arith, k, n));
        left_is = rw place is;
        right_is = rw place are;
        differ = differ;
      },
    )

module _ (d : Design) (excess low high : ℕ → ℤ) where
  pub of_face : (f : Face) (e : ℕ) (fault : StayFault) → IsUnequalFault d f e fault → IsFaceFault d excess low high f e fault
  of_face f e (TooWide q) h = absurd h
  of_face f e (Unequal entry input left right) h = h
  of_face f e (NoStay entry bound) h = absurd h

  held : (f : Face) (e : ℕ) (fault : StayFault) → FaceHolds d excess low high f → IsFaceFault d excess low high f e fault → ⊥
  held f e (TooWide q) h w = w
  held f e (Unequal entry input left right) h w =
      let l : input - 1 < d.inputs = omega (arith, w.1.low, w.1.high) in
      w.1.differ (w.1.left_is ∙ h.inputs (input - 1) l ∙ sym w.1.right_is)
  held f e (NoStay entry bound) h w = w.1.beyond (rw w.1.is h.inside)

  -- the first input with unequal sums
  input_le : (f : Face) (i j : ℕ) (a b x y : ℤ) → IsFirstUnequal d f i a b → IsFirstUnequal d f j x y → i ≤ j
  input_le f i j a b x y h k = elim (cases_lt j i) [
    | inl l ↦ absurd (k.differ (k.left_is ∙ h.before (j - 1) (omega (arith, l, k.low)) ∙ sym k.right_is))
    | inr l ↦ l
  ]

  same_face : (f : Face) (e : ℕ) (a b : StayFault) → IsFaceFault d excess low high f e a → IsFaceFault d excess low high f e b → a ≡ b
  same_face f e (TooWide q) b h k = absurd h
  same_face f e (Unequal entry input left right) (TooWide q) h k = absurd k
  same_face f e (Unequal entry input left right) (Unequal entry' input' left' right') h k =
      let first = input_le f input input' left right left' right' h.1 k.1 in
      let last = input_le f input' input left' right' left right k.1 h.1 in
      let place : input ≡ input' = omega (arith, first, last) in
      let own : entry ≡ entry' = h.0 ∙ sym k.0 in
      let one : left ≡ left' = h.1.left_is ∙ ap (λ i. input_of_rows d f (i - 1)) place ∙ sym k.1.left_is in
      let two : right ≡ right' = h.1.right_is ∙ ap (λ i. input_of_coordinate d f (i - 1)) place ∙ sym k.1.right_is in
      rw (own, place, one, two) refl
  same_face f e (Unequal entry input left right) (NoStay entry' bound) h k =
      absurd (h.1.differ (h.1.left_is ∙ k.1.inputs (input - 1) (omega (arith, h.1.low, h.1.high)) ∙ sym h.1.right_is))
  same_face f e (NoStay entry bound) (TooWide q) h k = absurd k
  same_face f e (NoStay entry bound) (Unequal entry' input left right) h k =
      absurd (k.1.differ (k.1.left_is ∙ h.1.inputs (input - 1) (omega (arith, k.1.low, k.1.high)) ∙ sym k.1.right_is))
  same_face f e (NoStay entry bound) (NoStay entry' bound') h k =
      let own : entry ≡ entry' = h.0 ∙ sym k.0 in
      let one : bound ≡ bound' = h.1.is ∙ sym k.1.is in
      rw (own, one) refl

  -- ---- all faces
  index_le : (faces : FaceNumbers) (a b : StayFault) (h : IsFacesFault d excess low high faces a) (k : IsFacesFault d excess low high faces b) → h.index ≤ k.index
  index_le faces a b h k = elim (cases_lt k.index h.index) [
    | inl l ↦ absurd (held (face_of faces k.index) (k.index + 1) b (h.before k.index l) k.here)
    | inr l ↦ l
  ]

  pub same_fault : (faces : FaceNumbers) (a b : StayFault) → IsStayFault d excess low high faces a → IsStayFault d excess low high faces b → a ≡ b
  same_fault faces a b (inl h) (inl k) = h.1 ∙ sym k.1
  same_fault faces a b (inl h) (inr k) = absurd (omega (arith, h.0, k.0))
  same_fault faces a b (inr h) (inl k) = absurd (omega (arith, h.0, k.0))
  same_fault faces a b (inr h) (inr k) =
      let first = index_le faces a b h.1 k.1 in
      let last = index_le faces b a k.1 h.1 in
      let e : k.1.index ≡ h.1.index = omega (arith, first, last) in
      same_face (face_of faces h.1.index) (h.1.index + 1) a b h.1.here (rw e at k.1.here)

  pub stays_or_not : (faces : FaceNumbers) (a : StayFault) → Stays d excess low high faces → IsStayFault d excess low high faces a → ⊥
  stays_or_not faces a s (inl h) = omega (arith, s.0, h.0)
  stays_or_not faces a s (inr h) = held (face_of faces h.1.index) (h.1.index + 1) a (s.1 h.1.index h.1.inside) h.1.here

  -- an answer, told the other way round
  pub right_way : (faces : FaceNumbers) (r : Result (Unit {0}) StayFault) → IfErr r (IsStayFault d excess low high faces) → Stays d excess low high faces → r ≡ Ok tt
  right_way faces (Ok u) h s = refl
  right_way faces (Err e) h s = absurd (stays_or_not faces e s h)

  pub wrong_way : (faces : FaceNumbers) (r : Result (Unit {0}) StayFault) → IfOk r (λ _. Stays d excess low high faces) → IfErr r (IsStayFault d excess low high faces) →
      (told : StayFault) → IsStayFault d excess low high faces told → r ≡ Err told
  wrong_way faces (Ok u) s h told w = absurd (stays_or_not faces told s w)
  wrong_way faces (Err e) s h told w = ap Err (same_fault faces e told h w)

-- ---- zeros as shifts
zero_at : (k i : ℕ) → at (replicate k (pos 0)) i ≡ pos 0
zero_at k i = elim (cases_lt i k) [
  | inl l ↦ get_or-replicate k i (pos 0) (pos 0) l
  | inr l ↦ get_or_past (replicate k (pos 0)) i (pos 0) (omega (arith, length-replicate k (pos 0), l))
]

pub zeros_are : (k : ℕ) → at (replicate k (pos 0)) ≡ none
zeros_are k = λ t i. zero_at k i t

pub unshifted : (d : Design) (excess : ℕ → ℤ) (zeros : List ℤ) (r : Result (Unit {0}) StayFault) → at zeros ≡ none →
    IfOk r (λ _. KeepsInBox d excess (at zeros) (at zeros)) → IfOk r (λ _. KeepsInBox d excess none none)
unshifted d excess zeros r e h = subst (λ (f : ℕ → ℤ). IfOk r (λ _. KeepsInBox d excess f f)) e h
