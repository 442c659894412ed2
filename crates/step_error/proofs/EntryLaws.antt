-- The size of a plan's entries, and the sum of a step's errors.
use Rattle.std.proofs.Common.{◌≡◌, ◌⊎◌, inl, inr, ℕ, zero, suc, ◌+◌, ◌*◌, ◌^◌, ◌≤◌, [], ◌∷◌, ℤ, pos, ◌+ℤ◌, ◌-ℤ◌, ◌*ℤ◌, ◌≤ℤ◌, arith, refl}
use Rattle.std.proofs.Math.Nat as Nat
use Rattle.integer_algebra.specs.Bounds.{absolute}
use Rattle.integer_algebra.specs.Sizes.{amount}
use Rattle.step_error.specs.Carried.{PlanEntryLaw, EpsilonLaw}
use Rattle.integer_algebra.proofs.OrderLaws.{le_by, le_of_pos, square_nonneg_z}
use Rattle.integer_algebra.proofs.SumLaws.{greatest}
use Rattle.integer_algebra.proofs.StrongLaws.{small_image}
use Rattle.integer_algebra.proofs.PowerLaws.{pow-two, four-pow, two-pow-more}
use Rattle.integer_algebra.proofs.Quoting.{by_ring, quotes}

pub entry : PlanEntryLaw
entry zero hessian least u b p strong within j l = absurd (omega arith)
entry (suc n) hessian least u b p strong within j l = small_image (suc n) hessian least u b p (strong u) within (greatest n (λ j. absolute (u j))) j l

-- ---- the four sums
-- a square of a sum, where the second is 0 or the first may count twice
square_spread : (spread a b : ℕ) → ((spread ≡ 1) × (b ≡ 0)) ⊎ (spread ≡ 2) → (a + b) ^ 2 ≤ spread * a ^ 2 + 2 * b ^ 2
square_spread spread a b h = rw (pow-two (a + b), pow-two a, pow-two b) (elim h [
  | inl e ↦ (let s = e.0 in let z = e.1 in rw (s, z) (omega arith))
  | inr s ↦ rw s (le_of_pos ((a + b) * (a + b)) (2 * (a * a) + 2 * (b * b)) (twice (pos a) (pos b)))
])
  where
    twice : (a b : ℤ) → ((a +ℤ b) *ℤ (a +ℤ b)) ≤ℤ (pos 2 *ℤ (a *ℤ a) +ℤ pos 2 *ℤ (b *ℤ b))
    twice a b = le_by (square_nonneg_z (a -ℤ b)) (by_ring (a ∷ b ∷ []) (search quotes depth 60 fits 20000) refl)

-- such squares, added up
squares_spread : (n spread m x b : ℕ) (g : ℕ → ℕ) → ((spread ≡ 1) × (b ≡ 0)) ⊎ (spread ≡ 2) →
    amount n (λ j. (m * (x * g j + b)) ^ 2) ≤ m * m * (spread * (x * x) * amount n (λ j. g j ^ 2) + 2 * n * (b * b))
squares_spread zero spread m x b g h = omega arith
squares_spread (suc n) spread m x b g h =
    let k = squares_spread n spread m x b g h in
    let o = square_spread spread (x * g n) b h in
    added n spread m x b (g n) (amount n (λ j. g j ^ 2)) (amount n (λ j. (m * (x * g j + b)) ^ 2)) k o
  where
    added : (n spread m x b y t s : ℕ) → s ≤ m * m * (spread * (x * x) * t + 2 * n * (b * b)) → (x * y + b) ^ 2 ≤ spread * (x * y) ^ 2 + 2 * b ^ 2 →
        s + (m * (x * y + b)) ^ 2 ≤ m * m * (spread * (x * x) * (t + y ^ 2) + 2 * suc n * (b * b))
    added n spread m x b y t s k h = rw (pow-two (m * (x * y + b)), pow-two y)
        (let o = rw (pow-two (x * y + b), pow-two (x * y), pow-two b) at h in omega (arith, k, Nat.mul-le-mul_left (m * m) o))

-- numbers alone: x is 2^f, p 2^40, m = 2 scale h
summed : (c r l s n g q y rows e t scale x p h one two three four all : ℕ) →
    all ≤ 2 * scale * h * (2 * scale * h) * (s * (p * p) * l + 2 * n * (x * q * (x * q))) →
    c * l ≤ 2 * r * g → s * p * g ≤ x * x * one → p * (y * rows) * e ≤ 2 * x * two → n * c * (q * q) ≤ p * r * three → p * (y * t) ≤ scale * four →
    c * all + 2 * r * (y * (2 * x * p * scale * h)) * (p * h * (rows * scale * e + 2 * x * t)) ≤
    2 * r * (2 * x * p * scale * h) * ((one + two + three + four) * (2 * x * scale * h))
summed c r l s n g q y rows e t scale x p h one two three four all ha a b d k m = omega (
  arith,
  Nat.mul-le-mul_left c ha,
  Nat.mul-le-mul_left (4 * scale * scale * h * h * s * p * p) a,
  Nat.mul-le-mul_left (8 * scale * scale * h * h * p * r) b,
  Nat.mul-le-mul_left (4 * r * x * p * h * h * scale * scale) d,
  Nat.mul-le-mul_left (8 * scale * scale * h * h * x * x) k,
  Nat.mul-le-mul_left (8 * r * x * x * p * h * h * scale) m,
)

pub epsilon : EpsilonLaw
epsilon e weight rho top f first one two three four h s =
    summed weight rho (amount e.entries (λ j. e.gradient j ^ 2)) e.spread e.entries first e.radius top e.rows e.error e.radii e.scale (2 ^ f) (2 ^ 40) h one two three four
    (amount e.entries (λ j. (2 * e.scale * h * (2 ^ 40 * e.gradient j + 2 ^ f * e.radius)) ^ 2))
    (squares_spread e.entries e.spread (2 * e.scale * h) (2 ^ 40) (2 ^ f * e.radius) e.gradient (scaled e.spread e.radius (2 ^ f) e.spread_is))
    s.squares (rw (four-pow f) at s.gradients) (rw (two-pow-more f) at s.residuals) (rw (pow-two e.radius) at s.gradient_radii) s.residual_radii
  where
    scaled : (spread q x : ℕ) → ((spread ≡ 1) × (q ≡ 0)) ⊎ (spread ≡ 2) → ((spread ≡ 1) × (x * q ≡ 0)) ⊎ (spread ≡ 2)
    scaled spread q x h = elim h [
      | inl k ↦ inl (k.0, (let z = k.1 in rw z (omega arith)))
      | inr k ↦ inr k
    ]
