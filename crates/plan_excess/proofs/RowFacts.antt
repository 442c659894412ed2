-- Rows of enclosures give the gradient of a form, and no radius is negative.
use Rattle.std.proofs.Common.{◌≡◌, ℕ, ◌^◌, ◌<◌, ◌≤◌, max, ℤ, pos, neg_ℤ, ◌*ℤ◌, ◌≤ℤ◌, unsigned_abs, length, refl, subst, sym}
use Rattle.std.proofs.lemmas.Nat.{pow_pos}
use Rattle.integer_algebra.proofs.OrderLaws.{add_nonneg_z, mul_nonneg_z}
use Rattle.integer_algebra.proofs.BoundLaws.{absolute_nonneg}
use Rattle.integer_algebra.proofs.SumLaws.{total_nonneg}
use Rattle.frac_scaled.specs.Enclosures.{Enclosure, divided, sum_of, whole_product}
use Rattle.mat_int.specs.Enclosures.{combined, combination, combination_magnitude}
use Rattle.enclosure.specs.Values.{pair, pair_at}
use Rattle.enclosure.proofs.RoomLaws.{ceil_small, inexact_small}
use Rattle.enclosure.proofs.GramLaws.{product_nonneg}
use Rattle.enclosure.proofs.SumLaws.{radius_nonneg}
use Rattle.qp_model.specs.problem.Design.{Design, entries}
use Rattle.qp_model.specs.form.Form.{Form}
use Rattle.qp_model.specs.bounds.Excess.{hessian_at, linear_at, constant_at, of_plan, of_state, gradient_enclosure, gradient_size, step_enclosure, slope_enclosure, sum_reach}
use Rattle.scaled_run.proofs.ListFacts.{combined_same, magnitude_same}
use Rattle.plan_excess.specs.declared.rows.Row.{Row}
use Rattle.plan_excess.specs.Rows.{IsGradientRow, gradient_by, gradient_size_by}

-- ---- what a row gives
module _ (d : Design) (h : Form) (j : ℕ) (row : Row) (is : IsGradientRow d h j row) (xi : ℕ → ℤ) (g : ℕ) (grid : g ≡ 2 ^ d.grid) (u : ℕ → ℤ) where
  plan_is : (q : ℕ) → combined (length row.plan.items) u (pair_at row.plan.items) q ≡ of_plan d h q u j
  plan_is q = subst (λ (n : ℕ). combined n u (pair_at row.plan.items) q ≡ of_plan d h q u j) (sym is.plan.long)
      (combined_same (entries d) u u (pair_at row.plan.items) (hessian_at h j) q (λ i l. refl) is.plan.is)

  state_is : combined (length row.state.items) xi (pair_at row.state.items) g ≡ of_state d h xi j
  state_is = subst (λ (n : ℕ). combined n xi (pair_at row.state.items) g ≡ of_state d h xi j) (sym is.state.long)
      (subst (λ (m : ℕ). combined d.states xi (pair_at row.state.items) m ≡ of_state d h xi j) (sym grid)
      (combined_same d.states xi xi (pair_at row.state.items) (linear_at h j) (2 ^ d.grid) (λ i l. refl) is.state.is))

  pub gradient_is : (q : ℕ) → gradient_by (length row.plan.items) (pair_at row.plan.items) (length row.state.items) (pair_at row.state.items) (pair row.constant) xi g u q ≡
      gradient_enclosure d h xi q u j
  gradient_is q t = sum_of (sum_of (plan_is q t) (state_is t)) (is.constant t)

  plan_reach_is : combination_magnitude (length row.plan.items) u (pair_at row.plan.items) ≡ combination_magnitude (entries d) u (hessian_at h j)
  plan_reach_is = subst (λ (n : ℕ). combination_magnitude n u (pair_at row.plan.items) ≡ combination_magnitude (entries d) u (hessian_at h j)) (sym is.plan.long)
      (magnitude_same (entries d) u u (pair_at row.plan.items) (hessian_at h j) (λ i l. refl) is.plan.is)

  state_reach_is : combination_magnitude (length row.state.items) xi (pair_at row.state.items) ≡ combination_magnitude d.states xi (linear_at h j)
  state_reach_is = subst (λ (n : ℕ). combination_magnitude n xi (pair_at row.state.items) ≡ combination_magnitude d.states xi (linear_at h j)) (sym is.state.long)
      (magnitude_same d.states xi xi (pair_at row.state.items) (linear_at h j) (λ i l. refl) is.state.is)

  pub gradient_size_is : (q : ℕ) → gradient_size_by (length row.plan.items) (pair_at row.plan.items) (length row.state.items) (pair_at row.state.items) (pair row.constant) xi g u q ≡
      gradient_size d h xi q u j
  gradient_size_is q t =
      max (max (unsigned_abs (plan_reach_is t)) (unsigned_abs (state_reach_is t)))
      (max (sum_reach (plan_is q t) (state_is t)) (sum_reach (sum_of (plan_is q t) (state_is t)) (is.constant t)))

-- ---- radii
divided_radius : (e : Enclosure) (d : ℕ) → 0 < d → pos 0 ≤ℤ e.rad → pos 0 ≤ℤ (divided e d).rad
divided_radius e d p h = add_nonneg_z (ceil_small e.rad d h p).0 (inexact_small e.mid d).0

combined_radius : (n : ℕ) (c : ℕ → ℤ) (x : ℕ → Enclosure) (d : ℕ) → 0 < d → ((i : ℕ) → i < n → pos 0 ≤ℤ (x i).rad) → pos 0 ≤ℤ (combined n c x d).rad
combined_radius n c x d p h = divided_radius (combination n c x) d p (total_nonneg n _ (λ i l. mul_nonneg_z _ _ (absolute_nonneg (c i)) (h i l)))

module _ (d : Design) (h : Form) (j : ℕ) (row : Row) (is : IsGradientRow d h j row) (xi : ℕ → ℤ) where
  hessian_radius : (i : ℕ) → i < entries d → pos 0 ≤ℤ (hessian_at h j i).rad
  hessian_radius i l = subst (λ (e : Enclosure). pos 0 ≤ℤ e.rad) (is.plan.is i l) (radius_nonneg row.plan.items i (rw is.plan.long l))

  linear_radius : (i : ℕ) → i < d.states → pos 0 ≤ℤ (linear_at h j i).rad
  linear_radius i l = subst (λ (e : Enclosure). pos 0 ≤ℤ e.rad) (is.state.is i l) (radius_nonneg row.state.items i (rw is.state.long l))

  constant_radius : pos 0 ≤ℤ (constant_at h j).rad
  constant_radius = subst (λ (e : Enclosure). pos 0 ≤ℤ e.rad) is.constant row.constant.nonnegative

  gradient_radius : (q : ℕ) (u : ℕ → ℤ) → 1 ≤ q → pos 0 ≤ℤ (gradient_enclosure d h xi q u j).rad
  gradient_radius q u p = add_nonneg_z (add_nonneg_z (combined_radius (entries d) u (hessian_at h j) q p hessian_radius)
      (combined_radius d.states xi (linear_at h j) (2 ^ d.grid) (pow_pos d.grid) linear_radius)) constant_radius

  pub slope_radius : (q : ℕ) (u : ℕ → ℤ) (o : ℕ) (w : ℕ → ℤ) → 1 ≤ q → 1 ≤ o → pos 0 ≤ℤ (slope_enclosure d h xi q u o w j).rad
  slope_radius q u o w p r = divided_radius (whole_product (sum_of (gradient_enclosure d h xi q u j) (gradient_enclosure d h xi o w j)) (step_enclosure q u o w j)) (2 ^ 40) (pow_pos 40)
      (product_nonneg (sum_of (gradient_enclosure d h xi q u j) (gradient_enclosure d h xi o w j)) (step_enclosure q u o w j)
      (add_nonneg_z (gradient_radius q u p) (gradient_radius o w r))
      (add_nonneg_z (inexact_small (pos (2 ^ 40) *ℤ u j) q).0 (inexact_small (pos (2 ^ 40) *ℤ neg_ℤ (w j)) o).0))
