-- Quotients rounded up, and how they move with what they divide and by what.
use Rattle.std.proofs.Common.{◌≡◌, ℕ, zero, suc, ◌*◌, ◌<◌, ◌≤◌, arith, sym, ◌∙◌}
use Rattle.std.specs.Int.{div_ceil}
use Rattle.std.proofs.lemmas.Grind.{div_ceil_times}
use Rattle.std.proofs.Math.Nat.{mul-le-mul_left, mul-le-mul_right, one-le-mul, div-eq_of_lt-le}
use Rattle.integer_algebra.specs.Division.{ceil_div}
use Rattle.integer_algebra.proofs.DivisionLaws.{ceil_div-le, le-mul-ceil_div}

-- as std has it
pub same_ceil : (a b : ℕ) → 0 < b → ceil_div a b ≡ div_ceil a b
same_ceil a b h =
    let t = div_ceil_times a b h in
    div-eq_of_lt-le b (omega (arith, t)) (omega (arith, t))

-- the code's quotient, of numbers that are a and b
pub quotient_is : (q x y a b : ℕ) → 0 < b → q ≡ div_ceil x y → x ≡ a → y ≡ b → q ≡ ceil_div a b
quotient_is q x y a b h e f g = e ∙ rw (f, g) (sym (same_ceil a b h))

pub ceil_small : (a b : ℕ) → 0 < b → ceil_div a b ≤ a
ceil_small a b h = ceil_div-le a b a h (omega (arith, mul-le-mul_right a h))

pub ceil_mono : (a b d : ℕ) → 0 < d → a ≤ b → ceil_div a d ≤ ceil_div b d
ceil_mono a b d p h = ceil_div-le a d (ceil_div b d) p (omega (arith, h, le-mul-ceil_div b d p))

-- by 0 too, which gives 0
pub ceil_rises : (a b d : ℕ) → a ≤ b → ceil_div a d ≤ ceil_div b d
ceil_rises a b zero h = omega arith
ceil_rises a b (suc d) h = ceil_mono a b (suc d) (omega arith) h

pub ceil_anti : (a b d : ℕ) → 0 < b → b ≤ d → ceil_div a d ≤ ceil_div a b
ceil_anti a b d p h = ceil_div-le a d (ceil_div a b) (omega (arith, p, h)) (omega (arith, le-mul-ceil_div a b p, mul-le-mul_right (ceil_div a b) h))

pub positive_by : {a b : ℕ} → a ≡ b → 1 ≤ b → 0 < a
positive_by {a} {b} e h = omega (arith, e, h)

-- by one number and then by another
pub ceil_twice : (a b d : ℕ) → 0 < b → 0 < d → ceil_div (ceil_div a b) d ≡ ceil_div a (b * d)
ceil_twice a b d p q =
    let low = ceil_div-le (ceil_div a b) d (ceil_div a (b * d)) q
    (ceil_div-le a b (d * ceil_div a (b * d)) p (omega (arith, le-mul-ceil_div a (b * d) (one-le-mul p q)))) in
    let high = ceil_div-le a (b * d) (ceil_div (ceil_div a b) d) (one-le-mul p q)
    (omega (arith, le-mul-ceil_div a b p, mul-le-mul_left b (le-mul-ceil_div (ceil_div a b) d q))) in
    omega (arith, low, high)
