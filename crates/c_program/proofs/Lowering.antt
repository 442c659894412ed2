-- The power of two that a row's factors share, and quotients by it.
use Rattle.std.proofs.Common.{◌≡◌, ℕ, zero, suc, ◌+◌, ◌-◌, ◌*◌, ◌/◌, ◌%◌, ◌^◌, ◌<◌, ◌≤◌, ◌==◌, true, ◌&&◌, if◌then◌else◌, ℤ, pos, negsuc, ◌+ℤ◌, ◌*ℤ◌, neg_ℤ, List, [], ◌∷◌, unsigned_abs, refl, sym, ap, subst, ◌∙◌, arith, inl, inr, div-add-mod'}
use Rattle.std.proofs.lemmas.Bool.{cases_lt, and_parts, eqb-true, cond_both}
use Rattle.std.proofs.lemmas.Int.{ints}
use Rattle.std.proofs.lemmas.Nat.{pow-add}
use Rattle.std.proofs.Math.Nat.{div-div-eq-div-mul}
use Rattle.integer_algebra.specs.Division.{floor_of}
use Rattle.integer_algebra.specs.Sums.{at}
use Rattle.integer_algebra.proofs.Quoting.{by_ring, quotes}
use Rattle.integer_algebra.proofs.DivisionLaws.{floor_of_is, floor_unique}
use Rattle.integer_algebra.proofs.RingLaws.{neg-mul_z}
use Rattle.c_language.specs.Syntax.{Variable}
use Rattle.c_language.specs.Syntax.Expression.{Value, Shifted}
use Rattle.c_language.specs.Meaning.{Environment}
use Rattle.c_program.specs.Of.{are_multiples, shared_bits, lowered_value}
use Rattle.c_program.proofs.Terms.{Makes, makes_same, makes_shifted}

-- ---- which power of two
multiples_at : (row : List ℤ) (k n : ℕ) → are_multiples row k n ≡ true → (j : ℕ) → j < n → unsigned_abs (at row j) % 2 ^ k ≡ 0
unfolding are_multiples
multiples_at row k zero h j l = absurd (omega (arith, l))
multiples_at row k (suc n) h j l =
    let parts = and_parts (are_multiples row k n) (unsigned_abs (at row n) % 2 ^ k == 0) h in
    elim (cases_lt j n) [
      | inl less ↦ multiples_at row k n parts.0 j less
      | inr more ↦ (let e : n ≡ j = omega (arith, l, more) in subst (λ (m : ℕ). unsigned_abs (at row m) % 2 ^ k ≡ 0) e (eqb-true (unsigned_abs (at row n) % 2 ^ k) 0 parts.1))
    ]

pub bits_le : (row : List ℤ) (n most : ℕ) → shared_bits row n most ≤ most
unfolding shared_bits
bits_le row n zero = omega arith
bits_le row n (suc most) =
    cond_both (are_multiples row (suc most) n) (suc most) (shared_bits row n most) (λ (k : ℕ). k ≤ suc most) (λ t. omega arith) (λ f. omega (arith, bits_le row n most))

pub bits_divide : (row : List ℤ) (n most j : ℕ) → j < n → unsigned_abs (at row j) % 2 ^ shared_bits row n most ≡ 0
unfolding shared_bits
bits_divide row n zero j l = omega arith
bits_divide row n (suc most) j l =
    cond_both (are_multiples row (suc most) n) (suc most) (shared_bits row n most) (λ (k : ℕ). unsigned_abs (at row j) % 2 ^ k ≡ 0)
    (λ t. multiples_at row (suc most) n t j l) (λ f. bits_divide row n most j l)

same_multiples : (xs ys : List ℤ) (k n : ℕ) → ((j : ℕ) → j < n → unsigned_abs (at xs j) ≡ unsigned_abs (at ys j)) → are_multiples xs k n ≡ are_multiples ys k n
unfolding are_multiples
same_multiples xs ys k zero h = refl
same_multiples xs ys k (suc n) h =
    let rest = same_multiples xs ys k n (λ j l. h j (omega (arith, l))) in
    let last = h n (omega arith) in
    (λ i. rest i && (last i % 2 ^ k == 0))

-- rows with numbers of one absolute value share one
pub same_bits : (xs ys : List ℤ) (n most : ℕ) → ((j : ℕ) → j < n → unsigned_abs (at xs j) ≡ unsigned_abs (at ys j)) → shared_bits xs n most ≡ shared_bits ys n most
unfolding shared_bits
same_bits xs ys n zero h = refl
same_bits xs ys n (suc most) h =
    let all = same_multiples xs ys (suc most) n h in
    let rest = same_bits xs ys n most h in
    (λ i. if all i then suc most else rest i)

-- ---- quotients
-- of a multiple
pub whole_floor : (x : ℤ) (d : ℕ) → 0 < d → unsigned_abs x % d ≡ 0 → x ≡ floor_of x d *ℤ pos d
whole_floor (pos a) d h e = ap pos (omega (arith, div-add-mod' a d, e))
whole_floor (negsuc a) d h e =
    let m = suc a / d in
    let size : suc a ≡ m * d = omega (arith, div-add-mod' (suc a) d, e) in
    let is : negsuc a ≡ neg_ℤ (pos m) *ℤ pos d = (let n : negsuc a ≡ neg_ℤ (pos (m * d)) = omega (arith, ints, size) in n ∙ sym (neg-mul_z (pos m) (pos d))) in
    let more : (neg_ℤ (pos m) +ℤ pos 1) *ℤ pos d ≡ neg_ℤ (pos m) *ℤ pos d +ℤ pos d = by_ring (neg_ℤ (pos m) ∷ pos d ∷ []) (search quotes depth 60 fits 20000) refl in
    is ∙ ap (λ (q : ℤ). q *ℤ pos d) (floor_unique (negsuc a) d (neg_ℤ (pos m)) h (record { least = omega (arith, ints, is); greatest = omega (arith, ints, is, more, h) }))

-- of a multiple with the other sign
pub negated_floor : (x : ℤ) (d : ℕ) → 0 < d → unsigned_abs x % d ≡ 0 → floor_of (neg_ℤ x) d ≡ neg_ℤ (floor_of x d)
negated_floor x d h e =
    let q = floor_of x d in
    let is : neg_ℤ q *ℤ pos d ≡ neg_ℤ x = neg-mul_z q (pos d) ∙ ap neg_ℤ (sym (whole_floor x d h e)) in
    let more : (neg_ℤ q +ℤ pos 1) *ℤ pos d ≡ neg_ℤ q *ℤ pos d +ℤ pos d = by_ring (neg_ℤ q ∷ pos d ∷ []) (search quotes depth 60 fits 20000) refl in
    sym (floor_unique (neg_ℤ x) d (neg_ℤ q) h (record { least = omega (arith, ints, is); greatest = omega (arith, ints, is, more, h) }))

-- with a multiple added
pub floor_more : (b q : ℤ) (d : ℕ) → 0 < d → floor_of b d +ℤ q ≡ floor_of (b +ℤ q *ℤ pos d) d
floor_more b q d h =
    let k = floor_of_is b d h in
    let low : (floor_of b d +ℤ q) *ℤ pos d ≡ floor_of b d *ℤ pos d +ℤ q *ℤ pos d = by_ring (floor_of b d ∷ q ∷ pos d ∷ []) (search quotes depth 60 fits 20000) refl in
    let high : (floor_of b d +ℤ q +ℤ pos 1) *ℤ pos d ≡ (floor_of b d +ℤ pos 1) *ℤ pos d +ℤ q *ℤ pos d = by_ring (floor_of b d ∷ q ∷ pos d ∷ []) (search quotes depth 60 fits 20000) refl in
    floor_unique (b +ℤ q *ℤ pos d) d (floor_of b d +ℤ q) h (record { least = omega (arith, ints, low, k.least); greatest = omega (arith, ints, high, k.greatest) })

-- of a quotient
pub floor_twice : (z : ℤ) (a b : ℕ) → floor_of (floor_of z a) b ≡ floor_of z (a * b)
floor_twice (pos n) a b = ap pos (div-div-eq-div-mul n a b)
floor_twice (negsuc n) a b = ap negsuc (div-div-eq-div-mul n a b)

pub floor_one : (z : ℤ) → floor_of z 1 ≡ z
floor_one (pos n) = ap pos (omega arith)
floor_one (negsuc n) = ap negsuc (omega arith)

pub power_split : (f q : ℕ) → q ≤ f → 2 ^ f ≡ 2 ^ q * 2 ^ (f - q)
power_split f q h = let e : q + (f - q) ≡ f = omega (arith, h) in ap (λ (n : ℕ). 2 ^ n) (sym e) ∙ pow-add 2 q (f - q)

-- ---- a variable's value
pub lowered_made : (e : Environment) (v : Variable) (z : ℤ) (most k : ℕ) → Makes e (Value v) z most → k < 64 → Makes e (lowered_value v k) (floor_of z (2 ^ k)) most
lowered_made e v z most k m h =
    cond_both (k == 0) (Value v) (Shifted (Value v) k) (λ a. Makes e a (floor_of z (2 ^ k)) most)
    (λ t. makes_same e (Value v) z (floor_of z (2 ^ k)) most most m (sym (floor_one z) ∙ ap (λ (n : ℕ). floor_of z (2 ^ n)) (sym (eqb-true k 0 t))) (omega arith))
    (λ f. makes_shifted e (Value v) z most k m h)
