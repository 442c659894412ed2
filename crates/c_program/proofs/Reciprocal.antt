-- A quotient by a reciprocal: the dividend is lowered by the bits of the divisor, but for two, and multiplied by a little less than 2^32 times their power over the divisor.
use Rattle.std.proofs.Common.{◌≡◌, ℕ, ◌+◌, ◌-◌, ◌*◌, ◌/◌, ◌^◌, ◌<◌, ◌≤◌, ℤ, pos, negsuc, ◌+ℤ◌, ◌-ℤ◌, ◌*ℤ◌, unsigned_abs, ap, ◌∙◌, arith, le_refl, inl, inr}
use Rattle.std.proofs.lemmas.Int.{ints, by_lt_z}
use Rattle.std.proofs.lemmas.Nat.{mul-le, div-add-mod', mod_below}
use Rattle.std.proofs.lemmas.Bool.{cases_lt}
use Rattle.integer_algebra.specs.Division.{floor_of}
use Rattle.integer_algebra.proofs.DivisionLaws.{floor_unique}
use Rattle.c_program.proofs.Terms.{sign_up, sign_down}

-- ---- quotients
pub record IsQuotient (n d q : ℕ) : Type 0 where
  pub low : q * d ≤ n
  pub high : n < q * d + d

pub quotient_is : (n d : ℕ) → 0 < d → IsQuotient n d (n / d)
quotient_is n d p = record { low = omega (arith, div-add-mod' n d); high = omega (arith, div-add-mod' n d, mod_below n d p) }

-- what is at most so many times the divisor is no more than the quotient
pub at_most_quotient : (n d l : ℕ) → 0 < d → l * d ≤ n → l ≤ n / d
at_most_quotient n d l p h = elim (cases_lt (n / d) l) [
  | inl less ↦ absurd (omega (arith, (quotient_is n d p).high, h, mul-le (n / d + 1) d l d (omega (arith, less)) (le_refl d)))
  | inr more ↦ more
]

-- ---- the reciprocal
pub short_reciprocal : (b x q : ℕ) → 2 * x ≤ b → q * b + 1 ≤ 2 ^ 32 * x → q < 2 ^ 31
short_reciprocal b x q low h = elim (cases_lt q (2 ^ 31)) [
  | inl less ↦ less
  | inr more ↦ absurd (omega (arith, low, h, mul-le (2 ^ 31) b q b more (le_refl b)))
]

short_head : (n b x h : ℕ) → n < 2 ^ 29 * b → b < 4 * x → h * x ≤ n → h < 2 ^ 31
short_head n b x h most high low = elim (cases_lt h (2 ^ 31)) [
  | inl less ↦ less
  | inr more ↦ absurd (omega (arith, most, high, low, mul-le (2 ^ 31) x h x more (le_refl x)))
]

-- the quotient or one less
pub record IsNear (n b h q l : ℕ) : Type 0 where
  pub head : h < 2 ^ 31
  pub reciprocal : q < 2 ^ 31
  pub small : l ≤ 2 ^ 30
  pub low : l * b ≤ n
  pub high : n < l * b + 2 * b

near_low : (n b x h q l : ℕ) → h * x ≤ n → q * b + 1 ≤ 2 ^ 32 * x → 2 ^ 32 * l ≤ h * q → l * b ≤ n
near_low n b x h q l head reciprocal near =
    omega (arith, head, mul-le (2 ^ 32 * l) b (h * q) b near (le_refl b), mul-le h (q * b) h (2 ^ 32 * x) (le_refl h) (omega (arith, reciprocal)))

near_high : (n b x h q l : ℕ) → n < h * x + x → 2 ^ 32 * x ≤ q * b + b → h * q < 2 ^ 32 * l + 2 ^ 32 → h + q ≤ 2 ^ 32 → n < l * b + 2 * b
near_high n b x h q l head reciprocal near room = omega (
  arith,
  head,
  mul-le (h + 1) (2 ^ 32 * x) (h + 1) (q * b + b) (le_refl (h + 1)) reciprocal,
  mul-le (h * q + 1) b (2 ^ 32 * l + 2 ^ 32) b (omega (arith, near)) (le_refl b),
  mul-le (h + q) b (2 ^ 32) b room (le_refl b),
)

pub near_is : (n b x : ℕ) → 0 < x → 2 * x ≤ b → b < 4 * x → n < 2 ^ 29 * b → IsNear n b (n / x) ((2 ^ 32 * x - 1) / b) (((n / x) * ((2 ^ 32 * x - 1) / b)) / 2 ^ 32)
near_is n b x some low high most =
    let h = n / x in
    let q = (2 ^ 32 * x - 1) / b in
    let head = quotient_is n x some in
    let reciprocal = quotient_is (2 ^ 32 * x - 1) b (omega (arith, some, low)) in
    let near = quotient_is (h * q) (2 ^ 32) (omega arith) in
    let least : q * b + 1 ≤ 2 ^ 32 * x = omega (arith, reciprocal.low, some) in
    let short : h < 2 ^ 31 = short_head n b x h most high head.low in
    let little = short_reciprocal b x q low least in
    record {
      head = short;
      reciprocal = little;
      small = omega (arith, near.low, mul-le h q (2 ^ 31) (2 ^ 31) (omega (arith, short)) (omega (arith, little)));
      low = near_low n b x h q (h * q / 2 ^ 32) head.low least (omega (arith, near.low));
      high = near_high n b x h q (h * q / 2 ^ 32) head.high (omega (arith, reciprocal.high)) (omega (arith, near.high)) (omega (arith, short, little));
    }

-- ---- which of the two
pub quotient_floor : (n b l : ℕ) → 0 < b → l * b ≤ n → n < l * b + b → pos l ≡ floor_of (pos n) b
quotient_floor n b l p h k = floor_unique (pos n) b (pos l) p (record { least = omega (arith, ints, h); greatest = omega (arith, ints, k) })

-- what is left over, less the divisor
abbrev pub left_over : (n b l : ℕ) → ℤ
left_over n b l = (pos n -ℤ pos l *ℤ pos b) -ℤ pos b

pub little_left : (n b l : ℕ) → l * b ≤ n → n < l * b + 2 * b → unsigned_abs (left_over n b l) ≤ b
little_left n b l h k = omega (arith, ints, h, k)

pub nearest : (n b l : ℕ) → 0 < b → b ≤ 2 ^ 31 → l * b ≤ n → n < l * b + 2 * b → (pos l +ℤ pos 1) +ℤ floor_of (left_over n b l) (2 ^ 31) ≡ floor_of (pos n) b
nearest n b l p short h k =
    by_lt_z (left_over n b l) (pos 0)
    (λ s. ap (λ (y : ℤ). (pos l +ℤ pos 1) +ℤ y) (sign_down (left_over n b l) (2 ^ 31) s (omega (arith, little_left n b l h k, short))) ∙
    (let e : (pos l +ℤ pos 1) +ℤ negsuc 0 ≡ pos l = omega (arith, ints) in e) ∙ quotient_floor n b l p h (omega (arith, ints, s)))
    (λ s. ap (λ (y : ℤ). (pos l +ℤ pos 1) +ℤ y) (sign_up (left_over n b l) (2 ^ 31) s (omega (arith, ints, k, short))) ∙
    (let e : (pos l +ℤ pos 1) +ℤ pos 0 ≡ pos (l + 1) = omega (arith, ints) in e) ∙ quotient_floor n b (l + 1) p (omega (arith, ints, s)) (omega (arith, k)))

-- ---- in two rounds, the first without the last 26 bits
pub record IsFirstRound (n b g : ℕ) : Type 0 where
  pub low : g * 2 ^ 26 * b ≤ n
  pub high : n - g * 2 ^ 26 * b < 2 ^ 27 * b

pub first_round : (n m b h q g : ℕ) → m * 2 ^ 26 ≤ n → n < m * 2 ^ 26 + 2 ^ 26 → IsNear m b h q g → IsFirstRound n b g
first_round n m b h q g low high near = record { low = omega (arith, low, near.low); high = omega (arith, high, near.high, near.low, low) }

-- what one round leaves, divided
pub with_rest : (n b l : ℕ) → 0 < b → l * b ≤ n → pos l +ℤ floor_of (pos (n - l * b)) b ≡ floor_of (pos n) b
with_rest n b l p h =
    let f = (n - l * b) / b in
    let is = quotient_is (n - l * b) b p in
    quotient_floor n b (l + f) p (omega (arith, h, is.low)) (omega (arith, h, is.high))

pub rest_small : (m b : ℕ) → 0 < b → m < 2 ^ 27 * b → m / b < 2 ^ 27
rest_small m b p h = elim (cases_lt (m / b) (2 ^ 27)) [
  | inl less ↦ less
  | inr more ↦ absurd (omega (arith, h, (quotient_is m b p).low, mul-le (2 ^ 27) b (m / b) b more (le_refl b)))
]
