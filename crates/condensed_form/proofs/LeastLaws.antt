-- The least number up to 40 that covers the squares of a form's rows.
use Rattle.std.proofs.Common.{◌≡◌, inl, inr, ℕ, zero, suc, ◌*◌, ◌<◌, ◌≤◌, nat_le, Bool, true, false, Option, Some, None, arith, refl}
use Rattle.std.specs.Prelude.{unwrap_or}
use Rattle.std.proofs.lemmas.Bool.{cases_lt, le-leb}
use Rattle.std.proofs.lemmas.Bool.Decides.{leb_tells}
use Rattle.qp_model.specs.problem.Design.{Design}
use Rattle.qp_model.specs.form.Form.{Form}
use Rattle.qp_model.specs.form.CurvatureSize.{CoversSquaresOf, covering_exponent, floor_times, limit_squares}
use Rattle.qp_model.specs.bounds.Least.{IsLeast, IsLeastBelow, least_up_to}

-- a test that is decided
record IsTest (t : ℕ → Bool) (p : ℕ → Type 0) : Type 0 where
  pub yes : (k : ℕ) → p k → t k ≡ true
  pub no : (k : ℕ) → ¬ p k → t k ≡ false

least_missed : (end : ℕ) (t : ℕ → Bool) (p : ℕ → Type 0) → IsTest t p → ((k : ℕ) → k < end → ¬ p k) → least_up_to end t ≡ end
least_missed zero t p d h = refl
least_missed (suc n) t p d h = rw (least_missed n t p d (λ k l. h k (omega arith)), d.no n (h n (omega arith))) refl

least_found : (end : ℕ) (t : ℕ → Bool) (p : ℕ → Type 0) → IsTest t p → (s : ℕ) → s ≤ end → IsLeast p s → least_up_to end t ≡ s
least_found zero t p d s l h = omega arith
least_found (suc n) t p d s l h = elim (cases_lt s (suc n)) [
  | inl o ↦ rw (least_found n t p d s (omega arith) h, d.yes s h.holds) refl
  | inr o ↦ (let e : s ≡ suc n = omega arith in
      rw (least_missed n t p d (λ k m. h.least k (omega arith)), d.no n (h.least n (omega arith)), e) refl)
]

covers_test : (d : Design) (h : Form) → IsTest (λ s. nat_le (d.cost_denominator * limit_squares h) (floor_times d h s)) (CoversSquaresOf d h)
covers_test d h = record {
  yes = λ k t. le-leb _ _ t;
  no = λ k t. elim (leb_tells (d.cost_denominator * limit_squares h) (floor_times d h k)) [ inl y ↦ absurd (t y.1) | inr y ↦ y.0 ];
}

-- the exponent that the squares ask
pub exponent_is : (d : Design) (h : Form) (o : Option ℕ) → IsLeastBelow 41 (CoversSquaresOf d h) o → covering_exponent d h ≡ unwrap_or o 40
exponent_is d h None b = least_missed 40 _ (CoversSquaresOf d h) (covers_test d h) (λ k l. b k (omega arith))
exponent_is d h (Some q) b = least_found 40 _ (CoversSquaresOf d h) (covers_test d h) q (omega (arith, b.0)) b.1

-- it is at most 40
pub few : (p : ℕ → Type 0) (o : Option ℕ) → IsLeastBelow 41 p o → unwrap_or o 40 ≤ 40
few p None h = omega arith
few p (Some q) h = omega (arith, h.0)
