-- The two quotients that an excess is made of are small.
use Rattle.std.proofs.Common.{◌≡◌, ℕ, zero, suc, min, ◌+◌, ◌*◌, ◌/◌, ◌%◌, ◌^◌, ◌≤◌, ℤ, pos, negsuc, ◌+ℤ◌, ◌-ℤ◌, ◌*ℤ◌, ◌≤ℤ◌, ◌<ℤ◌, unsigned_abs, FitsSigned, arith, refl, ap, ap₂, sym, ◌∙◌}
use Rattle.std.specs.Int.{w128, div_ceil}
use Rattle.std.proofs.lemmas.Int.{ints, by_lt_z}
use Rattle.integer_algebra.specs.Division.{ceil_of}
use Rattle.integer_algebra.proofs.DivisionLaws.{ceil_of_is}
use Rattle.integer_algebra.proofs.OrderLaws.{mul-le-mul_right_z}
use Rattle.frac_scaled.specs.Enclosures.{magnitude}
use Rattle.enclosure.specs.declared.types.Enc.{Enc}
use Rattle.enclosure.specs.Values.{pair}
use Rattle.enclosure.proofs.RoomLaws.{ceil_small, reach_is}

-- a natural times a positive number
pub weighted : (w : ℤ) (n : ℕ) → pos 1 ≤ℤ w → w *ℤ pos n ≡ pos (unsigned_abs w * n)
weighted (pos m) n h = refl
weighted (negsuc m) n h = absurd (omega (arith, ints, h))

-- over 2^25
pub rise_small : (z : ℤ) → unsigned_abs z ≤ 2 ^ 126 → unsigned_abs (ceil_of z (2 ^ 25)) ≤ 2 ^ 101 + 1
rise_small z h = let c = ceil_of_is z (2 ^ 25) (omega arith) in near (ceil_of z (2 ^ 25)) z h c.greatest c.least
  where
    near : (q z : ℤ) → unsigned_abs z ≤ 2 ^ 126 → z ≤ℤ (q *ℤ pos (2 ^ 25)) → ((q -ℤ pos 1) *ℤ pos (2 ^ 25)) <ℤ z → unsigned_abs q ≤ 2 ^ 101 + 1
    near q z h k l = omega (arith, ints, h, k, l)

-- over 2^34 times a number that is not 0
pub pull_small : (z : ℤ) (n : ℕ) → 1 ≤ n → pos 0 ≤ℤ z → z ≤ℤ pos (2 ^ 126) → (pos 0 ≤ℤ ceil_of z (2 ^ 34 * n)) × (ceil_of z (2 ^ 34 * n) ≤ℤ pos (2 ^ 92 + 1))
pull_small z n p h k = let c = ceil_of_is z (2 ^ 34 * n) (omega (arith, p)) in (
  (ceil_small z (2 ^ 34 * n) h (omega (arith, p))).0,
  bounded (ceil_of z (2 ^ 34 * n)) (pos (2 ^ 34 * n)) z (omega (arith, ints, p)) k c.least,
)
  where
    less : (q : ℤ) → pos (2 ^ 92 + 1) <ℤ q → pos (2 ^ 92 + 1) ≤ℤ (q -ℤ pos 1)
    less q h = omega (arith, ints, h)

    far : (e x z : ℤ) → pos (2 ^ 34) ≤ℤ e → z ≤ℤ pos (2 ^ 126) → x <ℤ z → (pos (2 ^ 92 + 1) *ℤ e) ≤ℤ x → ⊥
    far e x z h k l m = omega (arith, ints, h, k, l, m)

    bounded : (q e z : ℤ) → pos (2 ^ 34) ≤ℤ e → z ≤ℤ pos (2 ^ 126) → ((q -ℤ pos 1) *ℤ e) <ℤ z → q ≤ℤ pos (2 ^ 92 + 1)
    bounded q e z h k l = by_lt_z (pos (2 ^ 92 + 1)) q (λ o. absurd (far e ((q -ℤ pos 1) *ℤ e) z h k l (mul-le-mul_right_z e (omega (arith, ints, h)) (less q o)))) (λ o. o)

-- both together
module _ (rise w f : ℤ) (s : ℕ) (small : unsigned_abs rise ≤ 2 ^ 126) (weight : pos 1 ≤ℤ w) (some : pos 1 ≤ℤ f) (room : unsigned_abs w * s ≤ 2 ^ 126) where
  pulled : (pos 0 ≤ℤ ceil_of (w *ℤ pos s) (2 ^ 34 * unsigned_abs f)) × (ceil_of (w *ℤ pos s) (2 ^ 34 * unsigned_abs f) ≤ℤ pos (2 ^ 92 + 1))
  pulled = pull_small (w *ℤ pos s) (unsigned_abs f) (omega (arith, ints, some)) (rw (weighted w s weight) (omega (arith, ints))) (rw (weighted w s weight) (omega (arith, ints, room)))

  pub excess_fits : FitsSigned w128 (ceil_of rise (2 ^ 25) +ℤ ceil_of (w *ℤ pos s) (2 ^ 34 * unsigned_abs f))
  excess_fits = added (ceil_of rise (2 ^ 25)) (ceil_of (w *ℤ pos s) (2 ^ 34 * unsigned_abs f)) (rise_small rise small) pulled.0 pulled.1
    where
      added : (a b : ℤ) → unsigned_abs a ≤ 2 ^ 101 + 1 → pos 0 ≤ℤ b → b ≤ℤ pos (2 ^ 92 + 1) → FitsSigned w128 (a +ℤ b)
      added a b h k l = omega (arith, ints, h, k, l)

  pub excess_small : unsigned_abs (ceil_of rise (2 ^ 25) +ℤ ceil_of (w *ℤ pos s) (2 ^ 34 * unsigned_abs f)) ≤ 2 ^ 126
  excess_small = added (ceil_of rise (2 ^ 25)) (ceil_of (w *ℤ pos s) (2 ^ 34 * unsigned_abs f)) (rise_small rise small) pulled.0 pulled.1
    where
      added : (a b : ℤ) → unsigned_abs a ≤ 2 ^ 101 + 1 → pos 0 ≤ℤ b → b ≤ℤ pos (2 ^ 92 + 1) → unsigned_abs (a +ℤ b) ≤ 2 ^ 126
      added a b h k l = omega (arith, ints, h, k, l)

-- what is divided by
pub over_fits : (f : ℤ) → pos 1 ≤ℤ f → f ≤ℤ pos (2 ^ 31) → FitsSigned w128 (f *ℤ pos (2 ^ 34))
over_fits f h k = omega (arith, ints, h, k)

pub over_positive : (f o : ℤ) → pos 1 ≤ℤ f → o ≡ f *ℤ pos (2 ^ 34) → pos 1 ≤ℤ o
over_positive f o h e = omega (arith, ints, h, e)

pub over_is : (f o : ℤ) → pos 1 ≤ℤ f → o ≡ f *ℤ pos (2 ^ 34) → unsigned_abs o ≡ 2 ^ 34 * unsigned_abs f
over_is f o h e = omega (arith, ints, h, e)

-- the second quotient
pub pull_is : (x o w f : ℤ) (p s : ℕ) → x ≡ ceil_of (pos p) (unsigned_abs o) → p ≡ unsigned_abs w * s → pos 1 ≤ℤ w → pos 1 ≤ℤ f → o ≡ f *ℤ pos (2 ^ 34) → x ≡ ceil_of (w *ℤ pos s) (2 ^ 34 * unsigned_abs f)
pull_is x o w f p s e h k l g = e ∙ ap₂ (λ (z : ℤ) (n : ℕ). ceil_of z n) (ap (λ (n : ℕ). pos n) h ∙ sym (weighted w s k)) (over_is f o l g)

-- ---- a magnitude over 2^16
ceil_natural : (n : ℕ) → pos (div_ceil n (2 ^ 16)) ≡ ceil_of (pos n) (2 ^ 16)
ceil_natural zero = refl
ceil_natural (suc n) = ap (λ (m : ℕ). pos m) (next n)
  where
    next : (n : ℕ) → suc n / 65536 + min 1 (suc n % 65536) ≡ suc (n / 65536)
    next n = omega arith

pub steepness_is : (e : Enc) (m r : ℕ) → m ≡ unsigned_abs e.mid + unsigned_abs e.rad → r ≡ div_ceil m (2 ^ 16) → pos r ≡ ceil_of (magnitude (pair e)) (2 ^ 16)
steepness_is e m r h k = ap (λ (n : ℕ). pos n) k ∙ ap (λ (n : ℕ). pos (div_ceil n (2 ^ 16))) h ∙ ceil_natural (unsigned_abs e.mid + unsigned_abs e.rad) ∙
    ap (λ (z : ℤ). ceil_of z (2 ^ 16)) (sym (reach_is e.mid e.rad e.nonnegative))
