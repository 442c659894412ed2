-- Absolute values of sums, products, quotients and shifts.
use Rattle.std.proofs.Common.{◌≡◌, ℕ, zero, suc, ◌+◌, ◌-◌, ◌*◌, ◌/◌, ◌^◌, ◌≤◌, ◌<◌, ℤ, pos, negsuc, ◌+ℤ◌, ◌-ℤ◌, ◌*ℤ◌, neg_ℤ, ◌≤ℤ◌, unsigned_abs, arith, refl, le_refl}
use Rattle.std.specs.Int.{int_min, int_max}
use Rattle.std.proofs.lemmas.Int.{ints, clamps, unsigned_abs-mul}
use Rattle.std.proofs.lemmas.Nat.{pow_pos, mul-le}
use Rattle.std.proofs.Math.Nat.{div-le_self, add-div_right, div-mul-le_self, le-div_iff_mul-le}
use Rattle.integer_algebra.specs.Division.{floor_of, ceil_div}
use Rattle.mat_int.proofs.Dots.{abs-add_le}

-- a number is at most itself times a power of two
pub le_times_pow : (a k : ℕ) → a ≤ a * 2 ^ k
le_times_pow a k = grind (arith, pow_pos k)

-- quotients keep the order
pub div-le : (a b d : ℕ) → 0 < d → a ≤ b → a / d ≤ b / d
div-le a b d h le = (le-div_iff_mul-le h).1 (omega (arith, div-mul-le_self a d, le))

pub ceil_div_mono : (a b d : ℕ) → 0 < d → a ≤ b → ceil_div a d ≤ ceil_div b d
ceil_div_mono a b d h le = div-le (a + (d - 1)) (b + (d - 1)) d h (omega (arith, le))

pub abs-shifted : (a : ℤ) (k : ℕ) → unsigned_abs (a *ℤ pos (2 ^ k)) ≡ unsigned_abs a * 2 ^ k
abs-shifted a k = unsigned_abs-mul a (pos (2 ^ k))

pub abs-neg : (z : ℤ) → unsigned_abs (neg_ℤ z) ≡ unsigned_abs z
abs-neg (pos zero) = refl
abs-neg (pos (suc n)) = refl
abs-neg (negsuc n) = refl

pub abs-floor_le : (z : ℤ) (d : ℕ) → unsigned_abs (floor_of z d) ≤ unsigned_abs z
abs-floor_le (pos a) d = div-le_self a d
abs-floor_le (negsuc a) d = omega (arith, div-le_self a d)

pub abs-floor_le_ceil : (z : ℤ) (d : ℕ) → 0 < d → unsigned_abs (floor_of z d) ≤ ceil_div (unsigned_abs z) d
abs-floor_le_ceil (pos a) d h = div-le a (a + (d - 1)) d h (omega arith)
abs-floor_le_ceil (negsuc a) d h =
    let e : suc a + (d - 1) ≡ a + d = omega arith in
    rw (e, add-div_right a h) (omega arith)

-- a quotient of a number that is at least 0
pub floor_nonneg : (z : ℤ) (d : ℕ) → pos 0 ≤ℤ z → pos 0 ≤ℤ floor_of z d
floor_nonneg (pos a) d h = omega (arith, ints)
floor_nonneg (negsuc a) d h = absurd (omega (arith, ints, h))

pub floor-times_le : (z : ℤ) (d : ℕ) → pos 0 ≤ℤ z → unsigned_abs (floor_of z d) * d ≤ unsigned_abs z
floor-times_le (pos a) d h = div-mul-le_self a d
floor-times_le (negsuc a) d h = absurd (omega (arith, ints, h))

-- the sum that a plan entry is made of, part by part
pub abs-own_le : (own offset : ℤ) (f : ℕ) → unsigned_abs (own +ℤ offset *ℤ pos (2 ^ f)) ≤ unsigned_abs own + unsigned_abs offset * 2 ^ f
abs-own_le own offset f = omega (arith, abs-add_le own (offset *ℤ pos (2 ^ f)), abs-shifted offset f)

pub abs-scaled_le : (own offset : ℤ) (f s : ℕ) → unsigned_abs ((own +ℤ offset *ℤ pos (2 ^ f)) *ℤ pos (2 ^ s)) ≤ (unsigned_abs own + unsigned_abs offset * 2 ^ f) * 2 ^ s
abs-scaled_le own offset f s = rw abs-shifted (mul-le _ _ _ _ (abs-own_le own offset f) (le_refl (2 ^ s)))

-- a row's sum
pub abs-row_le : (plan state bound : ℤ) (f : ℕ) → unsigned_abs (plan +ℤ state -ℤ bound *ℤ pos (2 ^ f)) ≤ unsigned_abs plan + unsigned_abs state + unsigned_abs bound * 2 ^ f
abs-row_le plan state bound f =
    let b = bound *ℤ pos (2 ^ f) in
    let e : plan +ℤ state -ℤ b ≡ plan +ℤ state +ℤ neg_ℤ b = omega (arith, ints) in
    rw e (omega (arith, abs-add_le (plan +ℤ state) (neg_ℤ b), abs-add_le plan state, abs-neg b, abs-shifted bound f))

-- a number kept in 0 .. clamp
pub abs-clamped_le : (clamp x : ℤ) → pos 0 ≤ℤ clamp → unsigned_abs (int_min clamp (int_max x (pos 0))) ≤ unsigned_abs clamp
abs-clamped_le clamp x h = omega (arith, ints, clamps)
