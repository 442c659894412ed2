-- What an entry of a corner's plans tests and adds, by its row.
use Rattle.std.proofs.Common.{◌≡◌, ℕ, ◌^◌, ◌≤◌, max, ℤ, pos, neg_ℤ, ◌-ℤ◌, unsigned_abs, List, length, arith, ap, subst, sym, ◌∙◌}
use Rattle.std.proofs.lemmas.Int.{ints}
use Rattle.integer_algebra.specs.Sums.{at}
use Rattle.frac_scaled.specs.Enclosures.{Enclosure, enclosed, sum_of}
use Rattle.enclosure.specs.Values.{pair, pair_at}
use Rattle.qp_model.specs.problem.Design.{Design}
use Rattle.qp_model.specs.form.Form.{Form}
use Rattle.qp_model.specs.bounds.Excess.{gradient_enclosure, gradient_size, step_enclosure, sum_reach, product_reach}
use Rattle.plan_excess.specs.declared.rows.Row.{Row}
use Rattle.plan_excess.specs.declared.corner.Corner.{Corner}
use Rattle.plan_excess.specs.Rows.{IsGradientRow, gradient_by, gradient_size_by}
use Rattle.plan_excess.specs.Slopes.{slope_size_at}
use Rattle.plan_excess.proofs.RowFacts.{gradient_is, gradient_size_is}

pub negated : (z : ℤ) → pos 0 -ℤ z ≡ neg_ℤ z
negated z = omega (arith, ints)

-- ---- the gradients of a form
module _ (d : Design) (h : Form) (k : Corner) (j : ℕ) where
  abbrev pub here : Enclosure
  here = gradient_enclosure d h (at k.state.items) (unsigned_abs k.over) (at k.plan.now) j

  abbrev pub there : Enclosure
  there = gradient_enclosure d h (at k.state.items) (unsigned_abs k.under) (at k.reference.now) j

  abbrev pub step_of : Enclosure
  step_of = step_enclosure (unsigned_abs k.over) (at k.plan.now) (unsigned_abs k.under) (at k.reference.now) j

  -- what the calls of an entry test
  pub record HasSlopeRoom : Type 0 where
    pub plan : gradient_size d h (at k.state.items) (unsigned_abs k.over) (at k.plan.now) j ≤ 2 ^ 126
    pub reference : gradient_size d h (at k.state.items) (unsigned_abs k.under) (at k.reference.now) j ≤ 2 ^ 126
    pub both : sum_reach here there ≤ 2 ^ 126
    pub step : sum_reach (enclosed (at k.plan.now j) (unsigned_abs k.over)) (enclosed (neg_ℤ (at k.reference.now j)) (unsigned_abs k.under)) ≤ 2 ^ 126
    pub value : product_reach (sum_of here there) step_of ≤ 2 ^ 126

parts : (a b c d e t : ℕ) → max (max a b) (max c (max d e)) ≤ t → (a ≤ t) × (b ≤ t) × (c ≤ t) × (d ≤ t) × (e ≤ t)
parts a b c d e t h = (omega (arith, h), omega (arith, h), omega (arith, h), omega (arith, h), omega (arith, h))

whole_of : (a b c d e t : ℕ) → a ≤ t → b ≤ t → c ≤ t → d ≤ t → e ≤ t → max (max a b) (max c (max d e)) ≤ t
whole_of a b c d e t h k l m n = omega (arith, h, k, l, m, n)

module _ (d : Design) (h : Form) (k : Corner) (j : ℕ) where
  pub slope_room : slope_size_at d h k j ≤ 2 ^ 126 → HasSlopeRoom d h k j
  slope_room s =
      let p = parts (gradient_size d h (at k.state.items) (unsigned_abs k.over) (at k.plan.now) j) (gradient_size d h (at k.state.items) (unsigned_abs k.under) (at k.reference.now) j)
      (sum_reach (here d h k j) (there d h k j))
      (sum_reach (enclosed (at k.plan.now j) (unsigned_abs k.over)) (enclosed (neg_ℤ (at k.reference.now j)) (unsigned_abs k.under)))
      (product_reach (sum_of (here d h k j) (there d h k j)) (step_of d h k j)) (2 ^ 126) s in
      record { plan = p.0; reference = p.1; both = p.2; step = p.3; value = p.4 }

  pub slope_fits : HasSlopeRoom d h k j → slope_size_at d h k j ≤ 2 ^ 126
  slope_fits r =
      whole_of (gradient_size d h (at k.state.items) (unsigned_abs k.over) (at k.plan.now) j) (gradient_size d h (at k.state.items) (unsigned_abs k.under) (at k.reference.now) j)
      (sum_reach (here d h k j) (there d h k j))
      (sum_reach (enclosed (at k.plan.now j) (unsigned_abs k.over)) (enclosed (neg_ℤ (at k.reference.now j)) (unsigned_abs k.under)))
      (product_reach (sum_of (here d h k j) (there d h k j)) (step_of d h k j)) (2 ^ 126) r.plan r.reference r.both r.step r.value

-- ---- by a row, with the corner's state over its grid and a plan us over q, as they are handed to a call
module _ (d : Design) (h : Form) (k : Corner) (j : ℕ) (row : Row) (is : IsGradientRow d h j row) (grid : k.grid ≡ pos (2 ^ d.grid)) (us : List ℤ) (q : ℤ)
    (xs : List ℤ) (g o : ℤ) (lent : xs ≡ k.state.items) (over_grid : g ≡ k.grid) (over_plan : o ≡ q) where
  lent_is : gradient_by (length row.plan.items) (pair_at row.plan.items) (length row.state.items) (pair_at row.state.items) (pair row.constant) (at xs) (unsigned_abs g) (at us) (unsigned_abs o) ≡
      gradient_by (length row.plan.items) (pair_at row.plan.items) (length row.state.items) (pair_at row.state.items) (pair row.constant) (at k.state.items) (unsigned_abs k.grid) (at us) (unsigned_abs q)
  lent_is t = gradient_by (length row.plan.items) (pair_at row.plan.items) (length row.state.items) (pair_at row.state.items) (pair row.constant) (at (lent t)) (unsigned_abs (over_grid t)) (at us)
      (unsigned_abs (over_plan t))

  lent_size : gradient_size_by (length row.plan.items) (pair_at row.plan.items) (length row.state.items) (pair_at row.state.items) (pair row.constant) (at xs) (unsigned_abs g) (at us) (unsigned_abs o) ≡
      gradient_size_by (length row.plan.items) (pair_at row.plan.items) (length row.state.items) (pair_at row.state.items) (pair row.constant) (at k.state.items) (unsigned_abs k.grid) (at us) (unsigned_abs q)
  lent_size t = gradient_size_by (length row.plan.items) (pair_at row.plan.items) (length row.state.items) (pair_at row.state.items) (pair row.constant) (at (lent t)) (unsigned_abs (over_grid t)) (at us)
      (unsigned_abs (over_plan t))

  pub entry_is : (e : Enclosure) → e ≡ gradient_by (length row.plan.items) (pair_at row.plan.items) (length row.state.items) (pair_at row.state.items) (pair row.constant)
      (at xs) (unsigned_abs g) (at us) (unsigned_abs o) → e ≡ gradient_enclosure d h (at k.state.items) (unsigned_abs q) (at us) j
  entry_is e p = p ∙ lent_is ∙ gradient_is d h j row is (at k.state.items) (unsigned_abs k.grid) (ap (λ (z : ℤ). unsigned_abs z) grid) (at us) (unsigned_abs q)

  size_is : gradient_size_by (length row.plan.items) (pair_at row.plan.items) (length row.state.items) (pair_at row.state.items) (pair row.constant)
      (at xs) (unsigned_abs g) (at us) (unsigned_abs o) ≡ gradient_size d h (at k.state.items) (unsigned_abs q) (at us) j
  size_is = lent_size ∙ gradient_size_is d h j row is (at k.state.items) (unsigned_abs k.grid) (ap (λ (z : ℤ). unsigned_abs z) grid) (at us) (unsigned_abs q)

  pub entry_short : gradient_size d h (at k.state.items) (unsigned_abs q) (at us) j ≤ 2 ^ 126 →
      gradient_size_by (length row.plan.items) (pair_at row.plan.items) (length row.state.items) (pair_at row.state.items) (pair row.constant)
      (at xs) (unsigned_abs g) (at us) (unsigned_abs o) ≤ 2 ^ 126
  entry_short s = subst (λ (n : ℕ). n ≤ 2 ^ 126) (sym size_is) s

  pub entry_long : gradient_size_by (length row.plan.items) (pair_at row.plan.items) (length row.state.items) (pair_at row.state.items) (pair row.constant)
      (at xs) (unsigned_abs g) (at us) (unsigned_abs o) ≤ 2 ^ 126 → gradient_size d h (at k.state.items) (unsigned_abs q) (at us) j ≤ 2 ^ 126
  entry_long s = subst (λ (n : ℕ). n ≤ 2 ^ 126) size_is s
