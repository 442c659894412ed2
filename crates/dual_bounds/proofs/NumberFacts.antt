-- The numbers that are made of a margin.
use Rattle.std.proofs.Common.{◌≡◌, ℕ, zero, suc, ◌+◌, ◌*◌, ◌^◌, ◌<◌, ◌≤◌, ℤ, pos, negsuc, ◌*ℤ◌, ◌≤ℤ◌, unsigned_abs, FitsSigned, arith, ap, sym, ◌∙◌}
use Rattle.std.specs.Int.{w128, div_ceil}
use Rattle.std.proofs.lemmas.Int.{ints}
use Rattle.std.proofs.lemmas.Grind.{div_ceil_times}
use Rattle.std.proofs.lemmas.Nat.{pow-add}
use Rattle.std.proofs.Math.Nat.{mul-le-mul, mul-le-mul_right, mul_right_comm, pow-le-pow_right, div-eq_of_lt-le}
use Rattle.integer_algebra.specs.Division.{ceil_div}
use Rattle.integer_algebra.proofs.DivisionLaws.{ceil_div-le, le-mul-ceil_div}

-- the quotient rounded up, as std has it
pub same_ceil : (a b : ℕ) → 0 < b → ceil_div a b ≡ div_ceil a b
same_ceil a b h =
    let t = div_ceil_times a b h in
    div-eq_of_lt-le b (omega (arith, t)) (omega (arith, t))

pub positive : (z : ℤ) → pos 1 ≤ℤ z → 0 < unsigned_abs z
positive (pos n) h = omega (arith, ints, h)
positive (negsuc n) h = absurd (omega (arith, ints, h))

-- a quotient of the code's numbers
pub quotient_is : (count w u a : ℕ) (h : ℤ) → pos 1 ≤ℤ h → w ≡ a → u ≡ unsigned_abs h → count ≡ div_ceil w u → count ≡ ceil_div a (unsigned_abs h)
quotient_is count w u a h k e f g = g ∙ rw (e, f) (sym (same_ceil a (unsigned_abs h) (positive h k)))

pub quotient_small : (a b : ℕ) → 0 < b → ceil_div a b ≤ a
quotient_small a b h = ceil_div-le a b a h (omega (arith, mul-le-mul_right a h))

pub quotient_some : (a b : ℕ) → 1 ≤ a → 0 < b → 1 ≤ ceil_div a b
quotient_some a b h k = by_parts (ceil_div a b) (le-mul-ceil_div a b k)
  where
    by_parts : (c : ℕ) → a ≤ b * c → 1 ≤ c
    by_parts zero l = absurd (omega (arith, h, l))
    by_parts (suc c) l = omega arith

pub size_le : (z : ℤ) (n : ℕ) → pos 0 ≤ℤ z → z ≤ℤ pos n → unsigned_abs z ≤ n
size_le (pos m) n h k = omega (arith, ints, k)
size_le (negsuc m) n h k = absurd (omega (arith, ints, h))

-- ---- 2^e r
pub shifted : (e a b : ℕ) (r : ℤ) → e ≤ a → pos 1 ≤ℤ r → r ≤ℤ pos b → 2 ^ e * unsigned_abs r ≤ 2 ^ a * b
shifted e a b r h l k =
    let some : 0 < 2 = omega arith in
    let least : pos 0 ≤ℤ r = omega (arith, ints, l) in
    mul-le-mul (pow-le-pow_right some h) (size_le r b least k)

pub more_shifted : (e n : ℕ) → 2 ^ e * n ≤ 2 ^ 84 → 2 ^ (e + 40) * n ≤ 2 ^ 125
more_shifted e n h =
    let same : 2 ^ (e + 40) * n ≡ 2 ^ e * n * 2 ^ 40 = ap (λ (m : ℕ). m * n) (pow-add 2 e 40) ∙ mul_right_comm (2 ^ e) (2 ^ 40) n in
    omega (arith, same, h)

-- a lesser power
pub less_shifted : (e s n : ℕ) → e ≤ s → 2 ^ s * n ≤ 2 ^ 84 → 2 ^ e * n ≤ 2 ^ 84
less_shifted e s n h k =
    let some : 0 < 2 = omega arith in
    let below : 2 ^ e * n ≤ 2 ^ s * n = mul-le-mul_right n (pow-le-pow_right some h) in
    omega (arith, below, k)

pub shifted_fits : (e : ℕ) (r : ℤ) → pos 1 ≤ℤ r → 2 ^ e * unsigned_abs r ≤ 2 ^ 125 → FitsSigned w128 (r *ℤ pos (2 ^ e))
shifted_fits e (pos n) l h = omega (arith, ints, h)
shifted_fits e (negsuc n) l h = absurd (omega (arith, ints, l))

pub shifted_is : (e : ℕ) (r : ℤ) → pos 1 ≤ℤ r → 2 ^ e * unsigned_abs r ≤ 2 ^ 125 → unsigned_abs (r *ℤ pos (2 ^ e)) ≤ 2 ^ 125
shifted_is e (pos n) l h = omega (arith, h)
shifted_is e (negsuc n) l h = absurd (omega (arith, ints, l))
