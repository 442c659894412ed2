-- The numbers that are chosen.
use Rattle.std.proofs.Common.{◌≡◌, inl, inr, ℕ, zero, suc, ◌+◌, ◌*◌, ◌^◌, ◌<◌, ◌≤◌, ◌⊎◌, min, ℤ, ◌≤ℤ◌, ◌<ℤ◌, Option, Some, None, arith, sym, ◌∙◌, refl, rules}
use Rattle.std.specs.Prelude.{Result, IsErrAnd, unwrap_or}
use Rattle.std.specs.Option.{option_or}
use Rattle.integer_algebra.specs.Matrices.{IsDominant, off_diagonal_sum}
use Rattle.qp_model.specs.bounds.Least.{IsLeast, IsLeastBelow}
use Rattle.hessian_check.specs.Curvature.{HasPassingRoot, IsChosen, IsDominantAt, IsFirst}
use Rattle.hessian_check.specs.declared.fault.CurvatureFault.{CurvatureFault}
use Rattle.hessian_check.specs.declared.fault.CurvatureFault.TheVariants.{Memory}
use Rattle.hessian_check.specs.declared.fault.StepExponents.{StepExponents}
use Rattle.hessian_check.specs.Exponents.{IsEither, IsOutcome}
use Rattle.qp_model.specs.problem.Design.{Design}
use Rattle.qp_model.specs.form.Form.{Form}
use Rattle.qp_model.specs.form.CurvatureSize.{CoversSquaresOf, floor_times, limit_squares}
use Rattle.std.proofs.lemmas.Int.{ints, by_lt_z}
use Rattle.std.proofs.lemmas.Bool.{cases_lt}
use Rattle.std.proofs.lemmas.Result.{err_from_is_err_and}
use Rattle.std.proofs.Math.Nat.{mul-le-mul_left, one-le-mul, pow-suc}
use Rattle.integer_algebra.proofs.PowerLaws.{pow_positive}
use Rattle.qp_model.specs.form.Quantities.{input_floor}

pub either_made : (n : ℕ) (m : ℕ → ℕ → ℕ → ℤ) (o squares : Option ℕ) (s1 : ℕ) → option_or o squares ≡ Some s1 →
    IsLeastBelow (unwrap_or squares 40 + 1) (λ s. IsDominant n (m s)) o → IsEither n m squares s1
either_made n m None squares s1 e h = inr (λ s l. h s (omega arith), e)
either_made n m (Some d) squares s1 e h = let f : d ≡ s1 = cc in inl (omega (arith, f, h.0), rw (← f) h.1)

pub chosen_made : (n : ℕ) (m : ℕ → ℕ → ℕ → ℤ) (s1 : ℕ) (o : Option ℕ) → IsLeastBelow s1 (λ s. HasPassingRoot n (m s)) o → IsChosen n m s1 (unwrap_or o s1)
chosen_made n m s1 None h = inr (λ k p. h k p.0 p.1, refl)
chosen_made n m s1 (Some s) h = inl (record { holds = (h.0, h.1.holds); least = λ k l p. h.1.least k l p.1 })

-- ---- tests that are decided
data Choice (P : Type 0) : Type 0 where
  yes : P → Choice P
  no : ¬ P → Choice P

le_decided : (a b : ℤ) → Choice (a ≤ℤ b)
le_decided a b = by_lt_z b a (λ l. no (λ h. below h l)) (λ h. yes h)
  where
    below : {a b : ℤ} → a ≤ℤ b → b <ℤ a → ⊥
    below {a} {b} h l = omega (arith, ints, h, l)

-- of each number below n
each_decided : (p : ℕ → Type 0) → ((k : ℕ) → Choice (p k)) → (n : ℕ) → Choice ((k : ℕ) → k < n → p k)
each_decided p d zero = yes (λ k l. absurd (omega arith))
each_decided p d (suc n) = elim (each_decided p d n) [
  | no h ↦ no (λ a. h (λ k l. a k (omega arith)))
  | yes h ↦ elim (d n) [
    | no g ↦ no (λ a. g (a n (omega arith)))
    | yes g ↦ yes (λ k l. elim (cases_lt k n) [ inl t ↦ h k t | inr t ↦ (let e : k ≡ n = omega arith in rw e g) ])
  ]
]

dominant_decided : (n : ℕ) (a : ℕ → ℕ → ℤ) → Choice (IsDominant n a)
dominant_decided n a = each_decided (λ i. off_diagonal_sum n a i ≤ℤ a i i) (λ i. le_decided (off_diagonal_sum n a i) (a i i)) n

at_decided : (n : ℕ) (m : ℕ → ℕ → ℕ → ℤ) (s : ℕ) → Choice (IsDominantAt n m s)
at_decided n m s = elim (cases_lt s 41) [
  | inl l ↦ elim (dominant_decided n (m s)) [ yes y ↦ yes (omega arith, y) | no z ↦ no (λ t. z t.1) ]
  | inr l ↦ no (λ t. not_both t.0 l)
]
  where
    not_both : s ≤ 40 → 41 ≤ s → ⊥
    not_both h l = omega (arith, h, l)

-- the least number below `end` at which such a test holds
least_decided : (p : ℕ → Type 0) → ((k : ℕ) → Choice (p k)) → (end : ℕ) → ((s : ℕ) × ((s < end) × IsLeast p s)) ⊎ ((k : ℕ) → k < end → ¬ p k)
least_decided p d zero = inr (λ k l. absurd (omega arith))
least_decided p d (suc n) = elim (least_decided p d n) [
  | inl s ↦ inl (s.0, (omega (arith, s.1.0), s.1.1))
  | inr none ↦ elim (d n) [
    | yes y ↦ inl (n, (omega arith, record { holds = y; least = none }))
    | no z ↦ inr (λ k l. elim (cases_lt k n) [ inl t ↦ none k t | inr t ↦ (let e : k ≡ n = omega arith in rw e z) ])
  ]
]

some_same : {a b : ℕ} → Some a ≡ Some b → a ≡ b
some_same {a} {b} e = cc

-- ---- the least number is one
pub least_same : (p : ℕ → Type 0) (s t : ℕ) → IsLeast p s → IsLeast p t → s ≡ t
least_same p s t h g = elim (cases_lt s t) [
  | inl l ↦ absurd (g.least s l h.holds)
  | inr l ↦ elim (cases_lt t s) [ inl m ↦ absurd (h.least t m g.holds) | inr m ↦ omega arith ]
]

pub first_same : (n : ℕ) (m : ℕ → ℕ → ℕ → ℤ) (p : ℕ → Type 0) (s t : ℕ) → IsFirst n m p s → IsFirst n m p t → s ≡ t
first_same n m p s t h g =
    let e = least_same p h.squares g.squares h.by_squares g.by_squares in
    elim h.lesser [
      | inl a ↦ elim g.lesser [
        | inl b ↦ (let f = least_same (IsDominantAt n m) a.0 b.0 a.1 b.1 in a.2 ∙ rw (e, f) (sym b.2))
        | inr b ↦ absurd (b.0 a.0 a.1.holds)
      ]
      | inr a ↦ elim g.lesser [
        | inl b ↦ absurd (a.0 b.0 b.1.holds)
        | inr b ↦ a.1 ∙ e ∙ sym b.1
      ]
    ]

-- ---- the number that needs no certificate
-- the least number that covers the squares, where there is one at all
pub record HasLeast (p : ℕ → Type 0) : Type 0 where
  pub number : ℕ
  pub is : IsLeast p number

covers_decided : (d : Design) (h : Form) (s : ℕ) → Choice (CoversSquaresOf d h s)
covers_decided d h s = elim (cases_lt (floor_times d h s) (d.cost_denominator * limit_squares h)) [
  | inl l ↦ no (λ k. below k l)
  | inr l ↦ yes l
]
  where
    below : {a b : ℕ} → a ≤ b → b < a → ⊥
    below {a} {b} h l = omega (arith, h, l)

-- a power of two is above its exponent
above : (n : ℕ) → n < 2 ^ n
above zero = omega arith
above (suc n) = let h = above n in rw pow-suc (omega (arith, h))

pub covers_least : (d : Design) (h : Form) → 1 ≤ input_floor d → 1 ≤ h.rows_scale → HasLeast (CoversSquaresOf d h)
covers_least d h i l = elim (least_decided (CoversSquaresOf d h) (covers_decided d h) (left + 1)) [
  | inl s ↦ record { number = s.0; is = s.1.1 }
  | inr none ↦ absurd (none left (omega arith) (omega (arith, above left, up)))
]
  where
    left : ℕ
    left = d.cost_denominator * limit_squares h

    up : 2 ^ left ≤ floor_times d h left
    up = let x = one-le-mul i (pow_positive h.rows_scale 2 l) in
        let q = mul-le-mul_left (2 ^ left) x in omega (arith, q)

-- from the numbers that code finds
pub first_made : (n : ℕ) (m : ℕ → ℕ → ℕ → ℤ) (p : ℕ → Type 0) (o : Option ℕ) (s1 : ℕ) → HasLeast p → IsLeastBelow 41 p o → IsEither n m o s1 → IsFirst n m p s1
first_made n m p o s1 h b (inl k) = record { squares = h.number; by_squares = h.is; lesser = inl (s1, here, omega (arith, wide o b k.0)) }
  where
    few : (o : Option ℕ) → IsLeastBelow 41 p o → unwrap_or o 40 ≤ 40
    few None b = omega arith
    few (Some q) b = omega (arith, b.0)

    wide : (o : Option ℕ) → IsLeastBelow 41 p o → s1 ≤ unwrap_or o 40 → s1 ≤ h.number
    wide None b l = elim (cases_lt h.number 41) [ inl t ↦ absurd (b h.number t h.is.holds) | inr t ↦ omega (arith, l, t) ]
    wide (Some q) b l = let e = least_same p h.number q h.is b.1 in omega (arith, l, e)

    here : IsLeast (IsDominantAt n m) s1
    here = record { holds = (omega (arith, k.0, few o b), k.1.holds); least = λ j l t. k.1.least j l t.1 }
first_made n m p None s1 h b (inr k) = absurd (nothing k.1)
  where
    nothing : None ≡ Some s1 → ⊥
    nothing e = cc
first_made n m p (Some q) s1 h b (inr k) = elim (least_decided (IsDominantAt n m) (at_decided n m) 41) [
  | inl d ↦ record { squares = s1; by_squares = own; lesser = inl (d.0, d.1.1, below d.0 (d.1.1.holds)) }
  | inr none ↦ record { squares = s1; by_squares = own; lesser = inr ((λ d t. none d (omega (arith, t.0)) t), refl) }
]
  where
    same : q ≡ s1
    same = some_same k.1

    own : IsLeast p s1
    own = rw (← same) b.1

    below : (d : ℕ) → IsDominantAt n m d → s1 ≡ min s1 d
    below d t = elim (cases_lt d (s1 + 1)) [
      | inl l ↦ absurd (k.0 d (omega (arith, l, same)) t.1)
      | inr l ↦ omega (arith, l)
    ]

-- where neither test passes up to 40
pub first_above : (n : ℕ) (m : ℕ → ℕ → ℕ → ℤ) (p : ℕ → Type 0) (h : HasLeast p) → IsLeastBelow 41 p None → ((s : ℕ) → s ≤ 40 → ¬ IsDominant n (m s)) →
    IsFirst n m p h.number × (40 < h.number)
first_above n m p h b k = (
  record { squares = h.number; by_squares = h.is; lesser = inr ((λ d t. k d t.0 t.1), refl) },
  elim (cases_lt h.number 41) [ inl t ↦ absurd (b h.number t h.is.holds) | inr t ↦ t ],
)

-- ---- no memory was left
pub memory_outcome : (n : ℕ) (m : ℕ → ℕ → ℕ → ℤ) (squares : Option ℕ) (r : Result StepExponents CurvatureFault) → IsErrAnd r (λ e. e ≡ Memory) → IsOutcome n m squares r
memory_outcome n m squares r h = let y = err_from_is_err_and r h in rw (y.1, y.2) (search rules)
