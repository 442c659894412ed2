-- What all corners and their plans reach.
use Rattle.std.proofs.Common.{◌≡◌, ℕ, ◌+◌, ◌*◌, ◌%◌, ◌^◌, ◌<◌, ◌≤◌, max, List, [], Vec, Global, vec_len, ℤ, pos, length, unsigned_abs, arith, refl, ◌∙◌}
use Rattle.std.proofs.Math.Nat.{pow-le-pow_right}
use Rattle.std.proofs.lemmas.Int.{ints}
use Rattle.std.proofs.lemmas.Nat.{pow_pos}
use Rattle.integer_algebra.specs.Division.{ceil_div}
use Rattle.integer_algebra.specs.Sums.{at}
use Rattle.mat_int.specs.Matrix.{row_of}
use Rattle.qp_model.specs.problem.Design.{Design}
use Rattle.qp_model.specs.problem.Policy.{Plans, IsPlanDenominator, IsPlanNumerator, IsPolicyFor}
use Rattle.qp_model.specs.form.Quantities.{greatest}
use Rattle.qp_model.specs.bounds.CornerSizes.{plan_reach}
use Rattle.qp_model.proofs.SizeFacts.{greatest_more}
use Rattle.qp_model.proofs.CornerFacts.{row_length}

-- what code makes of a corner's plan
pub plan_reach_is : (p : Plans) (d : Design) (c : ℕ) (row : List ℤ) (over most : ℕ) → IsPolicyFor d p → c < 2 ^ d.states → row ≡ row_of p.numerators c →
    over ≡ unsigned_abs (at p.denominators c) → most ≡ greatest (length row) (λ j. ceil_div (2 ^ 40 * unsigned_abs (at row j)) over + 2) → most ≡ plan_reach d p c
plan_reach_is p d c row over most f l e o h = h ∙ rw (e, o, row_length p d c f l) refl

-- one corner more
pub reach_more : (f : ℕ → ℕ) (c low state most plan next : ℕ) → most ≡ max low (max state (greatest c f)) → plan ≡ f c → next ≡ max most plan →
    next ≡ max low (max state (greatest (c + 1) f))
reach_more f c low state most plan next e g h = h ∙ rw (e, g, greatest_more c f) (last low state (greatest c f) (f c))
  where
    last : (a b m n : ℕ) → max (max a (max b m)) n ≡ max a (max b (max m n))
    last a b m n = omega arith

-- ---- a policy's lists
pub below : (i n m : ℕ) → i < n → n ≡ m → i < m
below i n m l e = omega arith

pub below_len : (xs : Vec ℤ Global) (i n : ℕ) → i < n → length xs.items ≡ n → i < vec_len xs
below_len xs i n l e = omega (arith, xs.ok.0, l, e)

pub below_both : (i k n m : ℕ) → i < k → k ≡ n → n ≡ m → i < m
below_both i k n m l e f = omega arith

pub some_rows : {k n m : ℕ} → k ≡ n → n ≡ m → 1 ≤ m → 1 ≤ k
some_rows e f h = omega (arith, e, f, h)

pub at_end : (i k n m : ℕ) → i ≤ k → k ≤ i → k ≡ n → n ≡ m → i ≡ m
at_end i k n m l h e f = omega arith

-- a plan's numerators
pub numerators_small : (d : Design) (s : Plans) (c : ℕ) (row : List ℤ) → IsPolicyFor d s → c < 2 ^ d.states → row ≡ row_of s.numerators c →
    (j : ℕ) → j < length row → unsigned_abs (at row j) ≤ 2 ^ 63
numerators_small d s c row f l e = rw e (λ j m. before (at (row_of s.numerators c) j) (f.numerators c [] (omega (arith, f.rows)) j (pos 0) m))
  where
    before : (z : ℤ) → IsPlanNumerator z → unsigned_abs z ≤ 2 ^ 63
    before z h = omega (arith, h)

-- and its denominator
pub denominator_within : (d : Design) (s : Plans) (c over : ℕ) → IsPolicyFor d s → c < 2 ^ d.states → over ≡ unsigned_abs (at s.denominators c) → (1 ≤ over) × (over ≤ 2 ^ 40)
denominator_within d s c over f l e = within (at s.denominators c) over (f.denominators c (pos 0) (omega (arith, f.count))) e
  where
    within : (z : ℤ) (over : ℕ) → IsPlanDenominator z → over ≡ unsigned_abs z → (1 ≤ over) × (over ≤ 2 ^ 40)
    within z over h e = (omega (arith, ints, h.low, e), omega (arith, ints, h.low, h.high, e))

-- ---- the reach of the box
module _ (g : ℕ) (h : g ≤ 24) where
  grid_small : 2 ^ g ≤ 2 ^ 24
  grid_small = pow-le-pow_right {n = 2} (omega arith) {i = g} {j = 24} h

  pub shifted : 1 * 2 ^ g % 2 ^ 128 ≡ 2 ^ g
  shifted = one (2 ^ g) grid_small
    where
      one : (n : ℕ) → n ≤ 2 ^ 24 → 1 * n % 2 ^ 128 ≡ n
      one n l = omega arith

  pub grid_some : 1 ≤ 1 * 2 ^ g % 2 ^ 128
  grid_some = rw shifted (pow_pos g)

  pub grid_within : 1 * 2 ^ g % 2 ^ 128 ≤ 2 ^ 40
  grid_within = rw shifted (under (2 ^ g) grid_small)
    where
      under : (n : ℕ) → n ≤ 2 ^ 24 → n ≤ 2 ^ 40
      under n l = omega arith

  pub reach_first : (b box state most : ℕ) → box ≡ b → state ≡ ceil_div (2 ^ 40 * box) (1 * 2 ^ g % 2 ^ 128) → most ≡ max state (2 ^ 40) →
      most ≡ max (2 ^ 40) (max (ceil_div (2 ^ 40 * b) (2 ^ g)) 0)
  reach_first b box state most e f k = first most state _ k (rw (shifted, e) at f)
    where
      first : (most state over : ℕ) → most ≡ max state (2 ^ 40) → state ≡ over → most ≡ max (2 ^ 40) (max over 0)
      first most state over k f = omega arith

pub small_box : (n : ℕ) → n < 2 ^ 31 → n ≤ 2 ^ 63
small_box n h = omega arith

-- of all corners
pub reach_all : (f : ℕ → ℕ) (c n low state most : ℕ) → most ≡ max low (max state (greatest c f)) → c ≡ n → most ≡ max low (max state (greatest n f))
reach_all f c n low state most h e = rw e at h
