-- The excess of a corner, and its quantity, by the sums of its entries.
use Rattle.std.proofs.Common.{◌≡◌, ℕ, ◌*◌, ◌^◌, ◌≤◌, max, ℤ, pos, ◌+ℤ◌, ◌*ℤ◌, ◌≤ℤ◌, unsigned_abs, Option, Some, None, IsSome, IfSome, arith, ap, ap₂, subst, sym, ◌∙◌}
use Rattle.std.proofs.Math.Nat.{mul-le-mul_right}
use Rattle.std.proofs.lemmas.Int.{ints}
use Rattle.integer_algebra.specs.Sums.{at, total, square}
use Rattle.integer_algebra.specs.Sizes.{amount}
use Rattle.integer_algebra.specs.Division.{ceil_of}
use Rattle.frac_scaled.specs.Enclosures.{magnitude}
use Rattle.qp_model.specs.problem.Design.{Design, entries}
use Rattle.qp_model.specs.form.Form.{Form}
use Rattle.qp_model.specs.form.Quantities.{greatest}
use Rattle.qp_model.specs.bounds.Excess.{pull}
use Rattle.plan_excess.specs.declared.corner.Corner.{Corner}
use Rattle.plan_excess.specs.declared.sums.Sums.{Sums}
use Rattle.plan_excess.specs.Slopes.{AreSlopeSums, HasWeights, corner_slope, steepness_at, slope_size_at, squares_by, sums_size, excess_by, excess_size_by}
use Rattle.plan_excess.proofs.SumFacts.{squares}

-- a number that is there
pub small_of : (o : Option ℤ) (z : ℤ) (n : ℕ) → IsSome o → IfSome o (λ x. x ≡ z) → IfSome o (λ x. unsigned_abs x ≤ n) → unsigned_abs z ≤ n
small_of None z n s h k = cc
small_of (Some x) z n s h k = subst (λ (y : ℤ). unsigned_abs y ≤ n) h k

pub some_equal : (o : Option ℤ) (y z : ℤ) → y ≡ z → IfSome o (λ x. x ≡ y) → IfSome o (λ x. x ≡ z)
some_equal o y z h k = subst (λ (y : ℤ). IfSome o (λ x. x ≡ y)) h k

-- the four parts of a size
first_of : (a b c d t : ℕ) → max (max a b) (max c d) ≤ t → (a ≤ t) × (b ≤ t) × (c ≤ t)
first_of a b c d t h = (omega (arith, h), omega (arith, h), omega (arith, h))

all_of : (a b c d t : ℕ) → a ≤ t → b ≤ t → c ≤ t → d ≤ t → max (max a b) (max c d) ≤ t
all_of a b c d t h k l m = omega (arith, h, k, l, m)

three_of : (a b c t : ℕ) → a ≤ t → b ≤ t → c ≤ t → max a (max b c) ≤ t
three_of a b c t h k l = omega (arith, h, k, l)

module _ (d : Design) (h : Form) (k : Corner) (w f : ℤ) (weights : HasWeights d k w f) (some : pos 1 ≤ℤ w) where
  abbrev steep_sum : ℕ
  steep_sum = amount (entries d) (squares_by (steepness_at d h k))

  abbrev pulled : ℤ
  pulled = pull d h (at k.state.items) (unsigned_abs k.under) (at k.reference.now)

  pull_natural : unsigned_abs pulled ≡ d.cost_denominator * steep_sum
  pull_natural = ap (λ (z : ℤ). unsigned_abs (pos d.cost_denominator *ℤ z)) (squares (entries d) (steepness_at d h k))

  squares_natural : unsigned_abs (total (entries d) (λ j. square (steepness_at d h k j))) ≡ steep_sum
  squares_natural = ap (λ (z : ℤ). unsigned_abs z) (squares (entries d) (steepness_at d h k))

  positive : 1 ≤ d.cost_denominator
  positive = from d.cost_denominator w weights.weights some
    where
      from : (n : ℕ) (w : ℤ) → w ≡ pos n → pos 1 ≤ℤ w → 1 ≤ n
      from n w h k = omega (arith, ints, h, k)

  squares_below : unsigned_abs (total (entries d) (λ j. square (steepness_at d h k j))) ≤ unsigned_abs pulled
  squares_below = rw (squares_natural, pull_natural) (times steep_sum d.cost_denominator positive)
    where
      times : (a n : ℕ) → 1 ≤ n → a ≤ n * a
      times a n h = omega (arith, mul-le-mul_right a h)

  -- the sums' calls test no more than the excess' quantity
  pub sums_within : excess_size_by d h k ≤ 2 ^ 126 → sums_size (entries d) (slope_size_at d h k) (corner_slope d h k) (steepness_at d h k) ≤ 2 ^ 126
  sums_within s =
      let p = first_of (greatest (entries d) (slope_size_at d h k)) (unsigned_abs (total (entries d) (λ j. magnitude (corner_slope d h k j)))) (unsigned_abs pulled) (unsigned_abs (excess_by d h k)) (2 ^ 126) s in
      three_of (greatest (entries d) (slope_size_at d h k)) (unsigned_abs (total (entries d) (λ j. magnitude (corner_slope d h k j))))
      (unsigned_abs (total (entries d) (λ j. square (steepness_at d h k j)))) (2 ^ 126) p.0 p.1 (below _ _ squares_below p.2)
    where
      below : (a b : ℕ) → a ≤ b → b ≤ 2 ^ 126 → a ≤ 2 ^ 126
      below a b h k = omega (arith, h, k)

  module _ (s : Sums) (are : AreSlopeSums (entries d) (corner_slope d h k) (steepness_at d h k) s) where
    squares_are : total (entries d) (λ j. square (steepness_at d h k j)) ≡ pos s.squares
    squares_are = squares (entries d) (steepness_at d h k) ∙ ap (λ (n : ℕ). pos n) (sym are.squares)

    pub excess_known : ceil_of s.rise (2 ^ 25) +ℤ ceil_of (w *ℤ pos s.squares) (2 ^ 34 * unsigned_abs f) ≡ excess_by d h k
    excess_known = ap₂ (λ (a b : ℤ). a +ℤ b) (ap (λ (z : ℤ). ceil_of z (2 ^ 25)) are.rise)
        (ap₂ (λ (z : ℤ) (n : ℕ). ceil_of z (2 ^ 34 * n)) (ap₂ (λ (a b : ℤ). a *ℤ b) weights.weights (sym squares_are)) weights.least)

    pull_size : unsigned_abs pulled ≡ unsigned_abs w * s.squares
    pull_size = pull_natural ∙ ap₂ (λ (a b : ℕ). a * b) (ap (λ (z : ℤ). unsigned_abs z) (sym weights.weights)) (sym are.squares)

    pub pull_within : excess_size_by d h k ≤ 2 ^ 126 → unsigned_abs w * s.squares ≤ 2 ^ 126
    pull_within z = subst (λ (n : ℕ). n ≤ 2 ^ 126) pull_size (first_of (greatest (entries d) (slope_size_at d h k)) (unsigned_abs (total (entries d) (λ j. magnitude (corner_slope d h k j))))
        (unsigned_abs pulled) (unsigned_abs (excess_by d h k)) (2 ^ 126) z).2

    pub size_within : sums_size (entries d) (slope_size_at d h k) (corner_slope d h k) (steepness_at d h k) ≤ 2 ^ 126 → unsigned_abs w * s.squares ≤ 2 ^ 126 →
        unsigned_abs (excess_by d h k) ≤ 2 ^ 126 → excess_size_by d h k ≤ 2 ^ 126
    size_within z pulls small =
        let p = two_of (greatest (entries d) (slope_size_at d h k)) (unsigned_abs (total (entries d) (λ j. magnitude (corner_slope d h k j))))
        (unsigned_abs (total (entries d) (λ j. square (steepness_at d h k j)))) (2 ^ 126) z in
        all_of (greatest (entries d) (slope_size_at d h k)) (unsigned_abs (total (entries d) (λ j. magnitude (corner_slope d h k j)))) (unsigned_abs pulled) (unsigned_abs (excess_by d h k)) (2 ^ 126)
        p.0 p.1 (subst (λ (n : ℕ). n ≤ 2 ^ 126) (sym pull_size) pulls) small
      where
        two_of : (a b c t : ℕ) → max a (max b c) ≤ t → (a ≤ t) × (b ≤ t)
        two_of a b c t h = (omega (arith, h), omega (arith, h))
