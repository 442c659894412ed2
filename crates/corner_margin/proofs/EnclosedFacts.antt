-- How far enclosures of fractions reach.
use Rattle.std.proofs.Common.{◌≡◌, inl, inr, ℕ, suc, ◌+◌, ◌-◌, ◌*◌, ◌%◌, ◌^◌, ◌<◌, ◌≤◌, ℤ, pos, ◌+ℤ◌, ◌*ℤ◌, ◌≤ℤ◌, ◌<ℤ◌, unsigned_abs, arith, subst, refl}
use Rattle.std.proofs.lemmas.Bool.{cases_lt}
use Rattle.std.proofs.lemmas.Int.{ints, unsigned_abs-mul}
use Rattle.std.proofs.lemmas.Nat.{pow_pos, pow-add}
use Rattle.std.proofs.Math.Nat.{mul-le-mul_left, mul-mod_right}
use Rattle.integer_algebra.specs.Bounds.{absolute}
use Rattle.integer_algebra.specs.Division.{ceil_div, round_of}
use Rattle.integer_algebra.proofs.DivisionLaws.{le-mul-ceil_div, round_of_bounds}
use Rattle.frac_scaled.specs.Enclosures.{inexact, enclosed}
use Rattle.enclosure.proofs.RoomLaws.{inexact_small}
use Rattle.scaled_run.specs.Lists.{Reaches}

-- a quotient that is rounded to the nearest
round_size : (z : ℤ) (d : ℕ) → 0 < d → unsigned_abs (round_of z d) ≤ ceil_div (unsigned_abs z) d
round_size z d p =
    last (unsigned_abs (round_of z d)) (unsigned_abs z) (ceil_div (unsigned_abs z) d) (unsigned_abs (round_of z d *ℤ pos d)) (unsigned_abs-mul (round_of z d) (pos d))
    (naturals _ _ (near (round_of z d *ℤ pos d) z (pos d) (round_of_bounds z d p).0 (round_of_bounds z d p).1)) (le-mul-ceil_div (unsigned_abs z) d p)
  where
    near : (m z e : ℤ) → (pos 2 *ℤ m) ≤ℤ (pos 2 *ℤ z +ℤ e) → (pos 2 *ℤ z +ℤ e) <ℤ (pos 2 *ℤ m +ℤ pos 2 *ℤ e) → (pos 2 *ℤ absolute m) ≤ℤ (pos 2 *ℤ absolute z +ℤ e)
    near m z e h k = omega (arith, ints)

    naturals : (m a : ℕ) → pos (2 * m) ≤ℤ pos (2 * a + d) → 2 * m ≤ 2 * a + d
    naturals m a h = omega (arith, ints)

    last : (k a q m : ℕ) → m ≡ k * d → 2 * m ≤ 2 * a + d → a ≤ d * q → k ≤ q
    last k a q m e h l = elim (cases_lt q k) [
      | inl o ↦ absurd (clash (mul-le-mul_left d o))
      | inr o ↦ o
    ]
      where
        clash : d * suc q ≤ d * k → ⊥
        clash x = omega (arith, x, e, h, l)

-- ---- of a fraction
pub enclosed_reaches : (num : ℤ) (d n : ℕ) → 0 < d → ceil_div (2 ^ 40 * unsigned_abs num) d + 1 ≤ n → Reaches (enclosed num d) n
enclosed_reaches num d n p h = record {
  radius = (inexact_small (pos (2 ^ 40) *ℤ num) d).0;
  within = both (round_of (pos (2 ^ 40) *ℤ num) d) (inexact (pos (2 ^ 40) *ℤ num) d) _ (rw (unsigned_abs-mul (pos (2 ^ 40)) num) at (round_size (pos (2 ^ 40) *ℤ num) d p))
      (inexact_small (pos (2 ^ 40) *ℤ num) d).1 h;
}
  where
    both : (k i : ℤ) (q : ℕ) → unsigned_abs k ≤ q → i ≤ℤ pos 1 → q + 1 ≤ n → (absolute k +ℤ i) ≤ℤ pos n
    both k i q h l m = omega (arith, ints)

-- over a power of two that divides 2^40 it is exact
divided : (g m : ℕ) → g ≤ 40 → 2 ^ 40 * m % 2 ^ g ≡ 0
divided g m h =
    let e : g + (40 - g) ≡ 40 = omega arith in
    subst (λ (k : ℕ). 2 ^ k * m % 2 ^ g ≡ 0) e (rw (pow-add 2 g (40 - g), turn (2 ^ g) (2 ^ (40 - g)) m) (mul-mod_right (2 ^ g) (2 ^ (40 - g) * m)))
  where
    turn : (a b c : ℕ) → a * b * c ≡ a * (b * c)
    turn a b c = omega arith

exact : (num : ℤ) (g : ℕ) → g ≤ 40 → inexact (pos (2 ^ 40) *ℤ num) (2 ^ g) ≡ pos 0
exact num g h = rw (unsigned_abs-mul (pos (2 ^ 40)) num, divided g (unsigned_abs num) h) refl

pub exact_reaches : (num : ℤ) (g n : ℕ) → g ≤ 40 → ceil_div (2 ^ 40 * unsigned_abs num) (2 ^ g) ≤ n → Reaches (enclosed num (2 ^ g)) n
exact_reaches num g n l h = record {
  radius = (inexact_small (pos (2 ^ 40) *ℤ num) (2 ^ g)).0;
  within = both (round_of (pos (2 ^ 40) *ℤ num) (2 ^ g)) _ _ (rw (unsigned_abs-mul (pos (2 ^ 40)) num) at (round_size (pos (2 ^ 40) *ℤ num) (2 ^ g) (pow_pos g))) (exact num g l) h;
}
  where
    both : (k i : ℤ) (q : ℕ) → unsigned_abs k ≤ q → i ≡ pos 0 → q ≤ n → (absolute k +ℤ i) ≤ℤ pos n
    both k i q h e m = omega (arith, ints)
