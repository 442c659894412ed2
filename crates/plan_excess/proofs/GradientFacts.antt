-- What a gradient's entry and a slope test, part by part.
use Rattle.std.proofs.Common.{◌≡◌, ℕ, ◌^◌, ◌≤◌, max, ℤ, pos, ◌+ℤ◌, ◌*ℤ◌, ◌≤ℤ◌, unsigned_abs, List, length, Option, IfSome, arith, ap₂, subst, sym}
use Rattle.integer_algebra.specs.Sums.{at}
use Rattle.frac_scaled.specs.Enclosures.{Enclosure, magnitude, sum_of}
use Rattle.mat_int.specs.Enclosures.{combined, combination_magnitude}
use Rattle.enclosure.specs.declared.types.Enc.{Enc}
use Rattle.enclosure.specs.Values.{pair, pair_at}
use Rattle.qp_model.specs.bounds.Excess.{sum_reach, product_reach}
use Rattle.plan_excess.specs.declared.rows.Row.{Row}
use Rattle.plan_excess.specs.Rows.{gradient_size_by}
use Rattle.plan_excess.proofs.RoomFacts.{down, up, sum_nonneg, product_nonneg, terms_nonneg}

-- ---- operands that are known
pub sum_short : (a b e f : Enclosure) → e ≡ a → f ≡ b → sum_reach a b ≤ 2 ^ 126 → (magnitude e +ℤ magnitude f) ≤ℤ pos (2 ^ 126)
sum_short a b e f p q h = subst (λ (z : ℤ). z ≤ℤ pos (2 ^ 126)) (ap₂ (λ (x y : Enclosure). magnitude x +ℤ magnitude y) (sym p) (sym q)) (down (magnitude a +ℤ magnitude b) h)

pub sum_long : (a b e f : Enclosure) → e ≡ a → f ≡ b → pos 0 ≤ℤ e.rad → pos 0 ≤ℤ f.rad → (magnitude e +ℤ magnitude f) ≤ℤ pos (2 ^ 126) → sum_reach a b ≤ 2 ^ 126
sum_long a b e f p q h k s = subst (λ (n : ℕ). n ≤ 2 ^ 126) (ap₂ (λ (x y : Enclosure). sum_reach x y) p q) (up (magnitude e +ℤ magnitude f) (sum_nonneg e f h k) s)

pub product_short : (a b e f : Enclosure) → e ≡ a → f ≡ b → product_reach a b ≤ 2 ^ 126 → (magnitude e *ℤ magnitude f) ≤ℤ pos (2 ^ 126)
product_short a b e f p q h = subst (λ (z : ℤ). z ≤ℤ pos (2 ^ 126)) (ap₂ (λ (x y : Enclosure). magnitude x *ℤ magnitude y) (sym p) (sym q)) (down (magnitude a *ℤ magnitude b) h)

pub product_long : (a b e f : Enclosure) → e ≡ a → f ≡ b → pos 0 ≤ℤ e.rad → pos 0 ≤ℤ f.rad → (magnitude e *ℤ magnitude f) ≤ℤ pos (2 ^ 126) → product_reach a b ≤ 2 ^ 126
product_long a b e f p q h k s = subst (λ (n : ℕ). n ≤ 2 ^ 126) (ap₂ (λ (x y : Enclosure). product_reach x y) p q) (up (magnitude e *ℤ magnitude f) (product_nonneg e f h k) s)

-- the same list, lent
pub lent_short : (xs ys : List Enc) (c : ℕ → ℤ) → xs ≡ ys → unsigned_abs (combination_magnitude (length ys) c (pair_at ys)) ≤ 2 ^ 126 → combination_magnitude (length xs) c (pair_at xs) ≤ℤ pos (2 ^ 126)
lent_short xs ys c e h = subst (λ (zs : List Enc). combination_magnitude (length zs) c (pair_at zs) ≤ℤ pos (2 ^ 126)) (sym e) (down (combination_magnitude (length ys) c (pair_at ys)) h)

pub lent_long : (xs ys : List Enc) (c : ℕ → ℤ) → xs ≡ ys → combination_magnitude (length xs) c (pair_at xs) ≤ℤ pos (2 ^ 126) → unsigned_abs (combination_magnitude (length ys) c (pair_at ys)) ≤ 2 ^ 126
lent_long xs ys c e h = up (combination_magnitude (length ys) c (pair_at ys)) (terms_nonneg ys c) (subst (λ (zs : List Enc). combination_magnitude (length zs) c (pair_at zs) ≤ℤ pos (2 ^ 126)) e h)

-- a number that may be missing, by an equal one
pub some_same : (o : Option Enc) (a b : Enclosure) → a ≡ b → IfSome o (λ e. pair e ≡ a) → IfSome o (λ e. pair e ≡ b)
some_same o a b h k = subst (λ (z : Enclosure). IfSome o (λ e. pair e ≡ z)) h k

-- ---- a row with the state xs over g and the plan us over q
pub record HasGradientRoom (row : Row) (xs us : List ℤ) (g q : ℕ) : Type 0 where
  pub plan : unsigned_abs (combination_magnitude (length row.plan.items) (at us) (pair_at row.plan.items)) ≤ 2 ^ 126
  pub state : unsigned_abs (combination_magnitude (length row.state.items) (at xs) (pair_at row.state.items)) ≤ 2 ^ 126
  pub half : sum_reach (combined (length row.plan.items) (at us) (pair_at row.plan.items) q) (combined (length row.state.items) (at xs) (pair_at row.state.items) g) ≤ 2 ^ 126
  pub whole : sum_reach (sum_of (combined (length row.plan.items) (at us) (pair_at row.plan.items) q) (combined (length row.state.items) (at xs) (pair_at row.state.items) g))
      (pair row.constant) ≤ 2 ^ 126

parts : (a b c d t : ℕ) → max (max a b) (max c d) ≤ t → (a ≤ t) × (b ≤ t) × (c ≤ t) × (d ≤ t)
parts a b c d t h = (omega (arith, h), omega (arith, h), omega (arith, h), omega (arith, h))

whole_of : (a b c d t : ℕ) → a ≤ t → b ≤ t → c ≤ t → d ≤ t → max (max a b) (max c d) ≤ t
whole_of a b c d t h k l m = omega (arith, h, k, l, m)

module _ (row : Row) (xs us : List ℤ) (g q : ℕ) where
  pub gradient_room : gradient_size_by (length row.plan.items) (pair_at row.plan.items) (length row.state.items) (pair_at row.state.items) (pair row.constant) (at xs) g (at us) q ≤ 2 ^ 126 →
      HasGradientRoom row xs us g q
  gradient_room h =
      let p = parts (unsigned_abs (combination_magnitude (length row.plan.items) (at us) (pair_at row.plan.items)))
      (unsigned_abs (combination_magnitude (length row.state.items) (at xs) (pair_at row.state.items)))
      (sum_reach (combined (length row.plan.items) (at us) (pair_at row.plan.items) q) (combined (length row.state.items) (at xs) (pair_at row.state.items) g))
      (sum_reach (sum_of (combined (length row.plan.items) (at us) (pair_at row.plan.items) q) (combined (length row.state.items) (at xs) (pair_at row.state.items) g)) (pair row.constant))
      (2 ^ 126) h in
      record { plan = p.0; state = p.1; half = p.2; whole = p.3 }

  pub gradient_fits : HasGradientRoom row xs us g q →
      gradient_size_by (length row.plan.items) (pair_at row.plan.items) (length row.state.items) (pair_at row.state.items) (pair row.constant) (at xs) g (at us) q ≤ 2 ^ 126
  gradient_fits r =
      whole_of (unsigned_abs (combination_magnitude (length row.plan.items) (at us) (pair_at row.plan.items)))
      (unsigned_abs (combination_magnitude (length row.state.items) (at xs) (pair_at row.state.items)))
      (sum_reach (combined (length row.plan.items) (at us) (pair_at row.plan.items) q) (combined (length row.state.items) (at xs) (pair_at row.state.items) g))
      (sum_reach (sum_of (combined (length row.plan.items) (at us) (pair_at row.plan.items) q) (combined (length row.state.items) (at xs) (pair_at row.state.items) g)) (pair row.constant))
      (2 ^ 126) r.plan r.state r.half r.whole
