-- The least power of two that makes up for a quotient.
use Rattle.std.proofs.Common.{◌≡◌, inl, inr, ℕ, ◌+◌, ◌*◌, ◌/◌, ◌%◌, ◌<◌, ◌≤◌, ◌^◌, Option, Some, None, arith, ap, Fits}
use Rattle.std.specs.Int.{div_ceil, w128}
use Rattle.std.proofs.lemmas.Bool.{cases_lt}
use Rattle.std.proofs.lemmas.Grind.{div_ceil_times}
use Rattle.std.proofs.Math.Nat.{mul-le-mul_left, mul-le-mul, pow-le-pow_right}
use Rattle.integer_algebra.specs.Division.{ceil_div}
use Rattle.integer_algebra.proofs.DivisionLaws.{le-mul-ceil_div, ceil_div-le}
use Rattle.qp_model.specs.bounds.Least.{IsLeastBelow}

-- a quotient rounded up, by its bounds
ceil_is : (a b n : ℕ) → 0 < b → a ≤ b * n → b * n < a + b → ceil_div a b ≡ n
ceil_is a b n h low high = elim (cases_lt (ceil_div a b) n) [
  | inl l ↦ (let k : ceil_div a b + 1 ≤ n = omega arith in let m = mul-le-mul_left b k in absurd (omega (arith, m, le-mul-ceil_div a b h)))
  | inr l ↦ (let k = ceil_div-le a b n h low in omega (arith, k, l))
]

-- that of a product, by the quotient of one factor
pub ceil_parts : (f a b : ℕ) → 0 < b → ceil_div (f * a) b ≡ f * (a / b) + div_ceil (f * (a % b)) b
ceil_parts f a b h =
    let d = div_ceil_times (f * (a % b)) b h in
    let e : f * a ≡ f * (b * (a / b) + a % b) = ap (λ z. f * z) (omega arith) in
    ceil_is (f * a) b (f * (a / b) + div_ceil (f * (a % b)) b) h (omega (arith, d.0, e)) (omega (arith, d.1, e))

-- a power that the test looks at
pub power_small : (s u : ℕ) → s < 41 → u ≤ 2 ^ 80 → (1 * 2 ^ s % 2 ^ 128 ≡ 2 ^ s) × Fits w128 (2 ^ s * u)
power_small s u l h =
    let p : 2 ^ s ≤ 2 ^ 40 = pow-le-pow_right {n = 2} (omega arith) {i = s} {j = 40} (omega arith) in
    let q : 2 ^ s * u ≤ 2 ^ 40 * 2 ^ 80 = mul-le-mul {n₁ = 2 ^ s} {m₁ = u} {n₂ = 2 ^ 40} {m₂ = 2 ^ 80} p h in
    (omega (arith, p), omega (arith, q))

-- dividing both sides first
pub divided : (a u p s : ℕ) → 1 ≤ p → (ceil_div a p ≤ 2 ^ s * u → a ≤ 2 ^ s * u * p) × (a ≤ 2 ^ s * u * p → ceil_div a p ≤ 2 ^ s * u)
divided a u p s h = (
  λ l. (let b = le-mul-ceil_div a p h in let k = mul-le-mul_left p l in omega (arith, b, k)),
  λ l. ceil_div-le a p (2 ^ s * u) h (omega (arith, l)),
)

pub least_divided : (a u p : ℕ) (o : Option ℕ) → 1 ≤ p → IsLeastBelow 41 (λ s. ceil_div a p ≤ 2 ^ s * u) o → IsLeastBelow 41 (λ s. a ≤ 2 ^ s * u * p) o
least_divided a u p None h l = λ k m t. l k m ((divided a u p k h).1 t)
least_divided a u p (Some s) h l = (l.0, record { holds = (divided a u p s h).0 l.1.holds; least = λ k m t. l.1.least k m ((divided a u p k h).1 t) })

-- no power up to 40 makes up for a quotient that leaves 128 bits
pub none_divided : (a u p : ℕ) → 1 ≤ p → u ≤ 2 ^ 80 → 2 ^ 128 ≤ ceil_div a p → IsLeastBelow 41 (λ s. a ≤ 2 ^ s * u * p) None
none_divided a u p h l g k m t =
    let b = (divided a u p k h).1 t in
    let q = (power_small k u m l).1 in
    omega (arith, b, q, g)
