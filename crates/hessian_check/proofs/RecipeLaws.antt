-- The rows of a root are determined.
use Rattle.std.proofs.Common.{◌≡◌, inl, inr, ℕ, zero, suc, ◌+◌, ◌*◌, ◌<◌, ◌≤◌, ◌^◌, ℤ, pos, ◌-ℤ◌, ◌*ℤ◌, ◌≤ℤ◌, ◌<ℤ◌, unsigned_abs, arith, ap, ap₂, sym, ◌∙◌}
use Rattle.std.specs.Int.{IsIsqrt}
use Rattle.std.proofs.lemmas.Int.{ints}
use Rattle.std.proofs.lemmas.Bool.{cases_lt}
use Rattle.std.proofs.Math.Nat.{mul-le-mul_left, pow-le-pow_right}
use Rattle.integer_algebra.specs.Sums.{square}
use Rattle.integer_algebra.proofs.SumLaws.{total_same}
use Rattle.integer_algebra.proofs.OrderLaws.{mul-le-mul_right_z}
use Rattle.integer_algebra.proofs.RingLaws.{mul_assoc_z}
use Rattle.std.proofs.lemmas.Grind.{pow_more}
use Rattle.integer_algebra.specs.Division.{floor_of}
use Rattle.hessian_check.specs.Recipe.{left, quotient, IsPart, IsRow, AreRows}

-- a square rises
twice : (m n : ℕ) → m ≤ n → m * m ≤ n * n
twice m n h = let p : m * m ≤ m * n = mul-le-mul_left m h in let q : n * m ≤ n * n = mul-le-mul_left n h in omega (arith, p, q)

-- whole square roots are equal
pub isqrt_same : (z r s : ℤ) → IsIsqrt z r → IsIsqrt z s → r ≡ s
isqrt_same z r s h k = h.1 ∙ ap pos (roots h.0 k.0 (unsigned_abs z) h.2 h.3 k.2 k.3) ∙ sym k.1
  where
    roots : (a b v : ℕ) → a * a ≤ v → v < (a + 1) * (a + 1) → b * b ≤ v → v < (b + 1) * (b + 1) → a ≡ b
    roots a b v p q s t = elim (cases_lt a b) [
      | inl l ↦ absurd (omega (arith, twice (a + 1) b (omega arith)))
      | inr l ↦ elim (cases_lt b a) [
        | inl m ↦ absurd (omega (arith, twice (b + 1) a (omega arith)))
        | inr m ↦ omega arith
      ]
    ]

-- the rule reads the first j entries of rows i and j alone, and the diagonal of row j
pub quotient_same : (b r s : ℕ → ℕ → ℤ) (i j : ℕ) → ((k : ℕ) → k < j → r i k ≡ s i k) → ((k : ℕ) → k ≤ j → r j k ≡ s j k) → quotient b r i j ≡ quotient b s i j
quotient_same b r s i j h k = ap₂ (λ (z : ℤ) (y : ℤ). floor_of (b i j -ℤ z) (unsigned_abs y))
    (total_same j _ _ (λ l o. ap₂ (λ (z : ℤ) (y : ℤ). z *ℤ y) (h l o) (k l (omega arith)))) (k j (omega arith))

pub left_same : (b : ℕ → ℕ → ℤ) (mu : ℤ) (r s : ℕ → ℕ → ℤ) (i j : ℕ) → ((k : ℕ) → k < j → r i k ≡ s i k) → left b mu r i j ≡ left b mu s i j
left_same b mu r s i j h = ap (λ (z : ℤ). b i i -ℤ mu -ℤ z) (total_same j _ _ (λ l o. ap square (h l o)))

-- rows that are equal are made by the rule alike
pub part_moved : (b : ℕ → ℕ → ℤ) (mu : ℤ) (r s : ℕ → ℕ → ℤ) (i j : ℕ) → j ≤ i → ((k : ℕ) → k < j → r i k ≡ s i k) →
    ((a k : ℕ) → a < i → k ≤ a → r a k ≡ s a k) → IsPart b mu r i j → IsPart b mu s i j
part_moved b mu r s i j o h g p = record {
  made = λ k l. sym (h k l) ∙ p.made k l ∙ quotient_same b r s i k (λ q m. h q (omega arith)) (λ q m. g k q (omega arith) m);
  small = λ k l. rw (← (h k l)) (p.small k l);
  stays = λ k l. rw (← (left_same b mu r s i (k + 1) (λ q m. h q (omega arith)))) (p.stays k l);
}

pub row_moved : (n : ℕ) (b : ℕ → ℕ → ℤ) (mu : ℤ) (r s : ℕ → ℕ → ℤ) (i : ℕ) → i < n → ((a k : ℕ) → a ≤ i → k < n → r a k ≡ s a k) → IsRow n b mu r i → IsRow n b mu s i
row_moved n b mu r s i o h w =
    let e = left_same b mu r s i i (λ k l. h i k (omega arith) (omega arith)) in
    record {
      part = part_moved b mu r s i i (omega arith) (λ k l. h i k (omega arith) (omega arith)) (λ a k l m. h a k (omega arith) (omega arith)) w.part;
      positive = rw (← e) w.positive;
      own = rw (← e, ← (h i i (omega arith) o)) w.own;
      nonzero = rw (← (h i i (omega arith) o)) w.nonzero;
      above = λ j l m. sym (h i j (omega arith) m) ∙ w.above j l m;
    }

-- two matrices whose first i rows are made by the rule have them equal
pub part_same : (b : ℕ → ℕ → ℤ) (mu : ℤ) (r s : ℕ → ℕ → ℤ) (i j : ℕ) → j ≤ i → ((a k : ℕ) → a < i → k ≤ a → r a k ≡ s a k) →
    IsPart b mu r i j → IsPart b mu s i i → (k : ℕ) → k < j → r i k ≡ s i k
part_same b mu r s i zero o g p q k l = absurd (omega arith)
part_same b mu r s i (suc j) o g p q k l =
    let before = part_same b mu r s i j (omega arith) g (record { made = λ a m. p.made a (omega arith); small = λ a m. p.small a (omega arith); stays = λ a m. p.stays a (omega arith) }) q in
    elim (cases_lt k j) [
      | inl m ↦ before k m
      | inr m ↦ (let e : k ≡ j = omega arith in rw e (p.made j (omega arith) ∙ quotient_same b r s i j before (λ a t. g j a (omega arith) t) ∙ sym (q.made j (omega arith))))
    ]

pub rows_same : (n : ℕ) (b : ℕ → ℕ → ℤ) (mu : ℤ) (r s : ℕ → ℕ → ℤ) (i : ℕ) → i ≤ n → AreRows n b mu r i → AreRows n b mu s i → (a k : ℕ) → a < i → k ≤ a → r a k ≡ s a k
rows_same n b mu r s zero o h g a k l m = absurd (omega arith)
rows_same n b mu r s (suc i) o h g a k l m =
    let before = rows_same n b mu r s i (omega arith) (λ x y. h x (omega arith)) (λ x y. g x (omega arith)) in
    let p = h i (omega arith) in
    let q = g i (omega arith) in
    let same = part_same b mu r s i i (omega arith) before p.part q.part in
    elim (cases_lt a i) [
      | inl t ↦ before a k t m
      | inr t ↦ (let e : a ≡ i = omega arith in rw e (elim (cases_lt k i) [
        | inl u ↦ same k u
        | inr u ↦ (let f : k ≡ i = omega arith in rw f (isqrt_same (left b mu s i i) (r i i) (s i i) (rw (← (left_same b mu r s i i same)) p.own) q.own))
      ]))
    ]

-- a matrix made by the rule has the same entry next
pub next_same : (n : ℕ) (b : ℕ → ℕ → ℤ) (mu : ℤ) (r s : ℕ → ℕ → ℤ) (i j : ℕ) → i < n → j < i → AreRows n b mu r i → IsPart b mu r i j → AreRows n b mu s n →
    (s i j ≡ quotient b r i j) × ((k : ℕ) → k < j → r i k ≡ s i k)
next_same n b mu r s i j o l h p g =
    let before = rows_same n b mu r s i (omega arith) h (λ x y. g x (omega arith)) in
    let q = g i o in
    let same = part_same b mu r s i j (omega arith) before p q.part in
    (q.part.made j l ∙ sym (quotient_same b r s i j same (λ a t. before j a (omega arith) t)), same)

-- ---- the shift
pub shift_low : (t : ℤ) (k : ℕ) → pos 1 ≤ℤ t → (t *ℤ pos (4 ^ k)) <ℤ pos (2 ^ 60) → k < 30
shift_low t k h l = elim (cases_lt k 30) [
  | inl m ↦ m
  | inr m ↦ absurd (numbers t (4 ^ k) h l (pow-le-pow_right {n = 4} (omega arith) {i = 30} {j = k} m))
]
  where
    numbers : (t : ℤ) (p : ℕ) → pos 1 ≤ℤ t → (t *ℤ pos p) <ℤ pos (2 ^ 60) → 4 ^ 30 ≤ p → ⊥
    numbers t p h l m = let q = mul-le-mul_right_z (pos p) (omega (arith, ints)) h in omega (arith, ints, q)

pub shift_next : (t : ℤ) (k : ℕ) → t *ℤ pos (4 ^ (k + 1)) ≡ t *ℤ pos (4 ^ k) *ℤ pos 4
shift_next t k = rw (pow_more 4 k) (sym (mul_assoc_z t (pos (4 ^ k)) (pos 4)))
