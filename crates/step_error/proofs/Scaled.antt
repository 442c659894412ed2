-- Products of a few numbers, each part of which fits.
use Rattle.std.proofs.Common.{◌≡◌, ℕ, ◌*◌, ◌%◌, ◌^◌, ◌≤◌, [], ◌∷◌, ℤ, pos, ◌*ℤ◌, ◌≤ℤ◌, to_z, of_z, FitsSigned, unsigned_abs, arith, ◌∙◌, refl}
use Rattle.std.specs.Int.{w128}
use Rattle.std.proofs.lemmas.Int.{ints, unsigned_abs-mul, to_z-of_z, to_z_pos}
use Rattle.std.proofs.Math.Nat.{mul-le-mul_left}
use Rattle.integer_algebra.proofs.Quoting.{by_ring, quotes}
use Rattle.step_error.proofs.SumFacts.{shifted, power_small}

-- ---- one product
pub fits_small : (z : ℤ) → unsigned_abs z ≤ 2 ^ 126 → FitsSigned w128 z
fits_small z h = omega (arith, ints)

-- of numbers that are a and b
pub product_fits : (x y a b : ℤ) → x ≡ a → y ≡ b → unsigned_abs (a *ℤ b) ≤ 2 ^ 126 → FitsSigned w128 (x *ℤ y)
product_fits x y a b h k small = rw (h, k) (fits_small (a *ℤ b) small)

pub product_read : (x y a b : ℤ) → x ≡ a → y ≡ b → unsigned_abs (a *ℤ b) ≤ 2 ^ 126 → to_z w128 (of_z w128 (x *ℤ y)) ≡ a *ℤ b
product_read x y a b h k small = to_z-of_z w128 (x *ℤ y) (product_fits x y a b h k small) ∙ (λ i. h i *ℤ k i)

-- ---- a number times w, twice r, and p
record FitInTurn (x w r p : ℤ) : Type 0 where
  pub one : unsigned_abs (x *ℤ w) ≤ 2 ^ 126
  pub two : unsigned_abs (x *ℤ w *ℤ r) ≤ 2 ^ 126
  pub three : unsigned_abs (x *ℤ w *ℤ r *ℤ r) ≤ 2 ^ 126
  pub four : unsigned_abs (x *ℤ w *ℤ r *ℤ r *ℤ p) ≤ 2 ^ 126

turned : (x w r p : ℤ) → x *ℤ w *ℤ r *ℤ r *ℤ p ≡ p *ℤ (r *ℤ (r *ℤ w)) *ℤ x
turned x w r p = by_ring (x ∷ w ∷ r ∷ p ∷ []) (search quotes depth 60 fits 20000) refl

fit_in_turn : (x w r p : ℤ) → pos 1 ≤ℤ r → pos 1 ≤ℤ p → unsigned_abs (p *ℤ (r *ℤ (r *ℤ w)) *ℤ x) ≤ 2 ^ 126 → FitInTurn x w r p
fit_in_turn x w r p hr hp small =
    let four : unsigned_abs (x *ℤ w *ℤ r *ℤ r *ℤ p) ≤ 2 ^ 126 = rw (turned x w r p) small in
    let three = under (x *ℤ w *ℤ r *ℤ r) p hp four in
    let two = under (x *ℤ w *ℤ r) r hr three in
    record { one = under (x *ℤ w) r hr two; two = two; three = three; four = four }
  where
    under : (y z : ℤ) → pos 1 ≤ℤ z → unsigned_abs (y *ℤ z) ≤ 2 ^ 126 → unsigned_abs y ≤ 2 ^ 126
    under y z h k = factor (unsigned_abs y) (unsigned_abs z) (omega (arith, ints)) (rw (unsigned_abs-mul y z) at k)
      where
        factor : (a b : ℕ) → 1 ≤ b → a * b ≤ 2 ^ 126 → a ≤ 2 ^ 126
        factor a b h k = omega (arith, mul-le-mul_left a h, k)

-- as the code multiplies them
abbrev read : ℤ → ℤ
read z = to_z w128 (of_z w128 z)

module _ (x w r p : ℤ) (hr : pos 1 ≤ℤ r) (hp : pos 1 ≤ℤ p) (small : unsigned_abs (p *ℤ (r *ℤ (r *ℤ w)) *ℤ x) ≤ 2 ^ 126) (fx : FitsSigned w128 x) (fw : FitsSigned w128 w) where
  pub one_fits : FitsSigned w128 (read x *ℤ read w)
  one_fits = product_fits _ _ _ _ (to_z-of_z w128 x fx) (to_z-of_z w128 w fw) (fit_in_turn x w r p hr hp small).one

  one_is : read (read x *ℤ read w) ≡ x *ℤ w
  one_is = product_read _ _ _ _ (to_z-of_z w128 x fx) (to_z-of_z w128 w fw) (fit_in_turn x w r p hr hp small).one

  module _ (fr : FitsSigned w128 r) where
    pub two_fits : FitsSigned w128 (read (read x *ℤ read w) *ℤ read r)
    two_fits = product_fits _ _ _ _ one_is (to_z-of_z w128 r fr) (fit_in_turn x w r p hr hp small).two

    two_is : read (read (read x *ℤ read w) *ℤ read r) ≡ x *ℤ w *ℤ r
    two_is = product_read _ _ _ _ one_is (to_z-of_z w128 r fr) (fit_in_turn x w r p hr hp small).two

    pub three_fits : FitsSigned w128 (read (read (read x *ℤ read w) *ℤ read r) *ℤ read r)
    three_fits = product_fits _ _ _ _ two_is (to_z-of_z w128 r fr) (fit_in_turn x w r p hr hp small).three

    three_is : read (read (read (read x *ℤ read w) *ℤ read r) *ℤ read r) ≡ x *ℤ w *ℤ r *ℤ r
    three_is = product_read _ _ _ _ two_is (to_z-of_z w128 r fr) (fit_in_turn x w r p hr hp small).three

    pub four_fits : FitsSigned w128 p → FitsSigned w128 (read (read (read (read x *ℤ read w) *ℤ read r) *ℤ read r) *ℤ read p)
    four_fits fp = product_fits _ _ _ _ three_is (to_z-of_z w128 p fp) (fit_in_turn x w r p hr hp small).four

    pub four_is : FitsSigned w128 p → read (read (read (read (read x *ℤ read w) *ℤ read r) *ℤ read r) *ℤ read p) ≡ p *ℤ (r *ℤ (r *ℤ w)) *ℤ x
    four_is fp = product_read _ _ _ _ three_is (to_z-of_z w128 p fp) (fit_in_turn x w r p hr hp small).four ∙ turned x w r p

-- ---- a power of two, as the code shifts
pub unit_is : (f : ℕ) → f ≤ 48 → to_z w128 (1 * 2 ^ f % 2 ^ 128) ≡ pos (2 ^ f)
unit_is f h = let e = shifted f 48 h (omega arith) in rw e (to_z_pos w128 (2 ^ f) (let k = power_small f 48 h in omega (arith, k)))
