-- A form that has the same numbers as another, at a state of the same coordinates, gives the same excess and the same quantity.
use Rattle.std.proofs.Common.{◌≡◌, ℕ, suc, ◌^◌, ◌<◌, max, ℤ, pos, ◌+ℤ◌, ◌*ℤ◌, ◌*◌, neg_ℤ, unsigned_abs, refl, ap, subst, sym}
use Rattle.integer_algebra.specs.Sums.{square}
use Rattle.integer_algebra.specs.Division.{ceil_of}
use Rattle.integer_algebra.proofs.SumLaws.{total_same}
use Rattle.frac_scaled.specs.Enclosures.{Enclosure, magnitude, enclosed, sum_of, product_of}
use Rattle.qp_model.specs.problem.Design.{Design, entries}
use Rattle.qp_model.specs.problem.Box.{corner}
use Rattle.qp_model.specs.problem.Policy.{Plans, corner_denominator, corner_plan}
use Rattle.qp_model.specs.form.Form.{Form, HaveSameNumbers}
use Rattle.qp_model.specs.form.Quantities.{input_floor}
use Rattle.qp_model.specs.bounds.Excess.{brought, hessian_at, linear_at, constant_at, of_plan, of_state, gradient_enclosure, step_enclosure, slope_enclosure, rise, steepness}
use Rattle.qp_model.specs.bounds.Excess.{pull, excess_at, at_least_none, excess_of, reach, sum_reach, product_reach, number_size, gradient_size, slope_size, excess_size_at, excess_size}
use Rattle.qp_model.proofs.SizeFacts.{greatest_same}
use Rattle.scaled_run.proofs.ListFacts.{combined_same, magnitude_same}

module _ (d : Design) (h k : Form) (same : HaveSameNumbers h k) (long : k.entries ≡ entries d) (wide : k.states ≡ d.states) where
  entry : (j : ℕ) → j < entries d → j < k.entries
  entry j l = subst (λ (n : ℕ). j < n) (sym long) l

  coordinate : (i : ℕ) → i < d.states → i < k.states
  coordinate i l = subst (λ (n : ℕ). i < n) (sym wide) l

  hessian_same : (j i : ℕ) → j < entries d → i < entries d → hessian_at h j i ≡ hessian_at k j i
  hessian_same j i l m t = brought (same.hessian_scale t) (same.hessian j i (entry j l) (entry i m) t) (same.hessian_radius j i (entry j l) (entry i m) t)

  linear_same : (j i : ℕ) → j < entries d → i < d.states → linear_at h j i ≡ linear_at k j i
  linear_same j i l m t = brought (same.hessian_scale t) (same.linear j i (entry j l) (coordinate i m) t) (same.linear_radius j i (entry j l) (coordinate i m) t)

  constant_same : (j : ℕ) → j < entries d → constant_at h j ≡ constant_at k j
  constant_same j l t = brought (same.hessian_scale t) (same.constant j (entry j l) t) (same.constant_radius j (entry j l) t)

  plan_same : (q : ℕ) (u : ℕ → ℤ) (j : ℕ) → j < entries d → of_plan d h q u j ≡ of_plan d k q u j
  plan_same q u j l = combined_same (entries d) u u (hessian_at h j) (hessian_at k j) q (λ i m. refl) (λ i m. hessian_same j i l m)

  state_same : (xi yi : ℕ → ℤ) (alike : (i : ℕ) → i < d.states → xi i ≡ yi i) (j : ℕ) → j < entries d → of_state d h xi j ≡ of_state d k yi j
  state_same xi yi alike j l = combined_same d.states xi yi (linear_at h j) (linear_at k j) (2 ^ d.grid) alike (λ i m. linear_same j i l m)

  gradient_same : (xi yi : ℕ → ℤ) (alike : (i : ℕ) → i < d.states → xi i ≡ yi i) (q : ℕ) (u : ℕ → ℤ) (j : ℕ) → j < entries d → gradient_enclosure d h xi q u j ≡ gradient_enclosure d k yi q u j
  gradient_same xi yi alike q u j l t = sum_of (sum_of (plan_same q u j l t) (state_same xi yi alike j l t)) (constant_same j l t)

  slope_same : (xi yi : ℕ → ℤ) (alike : (i : ℕ) → i < d.states → xi i ≡ yi i) (q : ℕ) (u : ℕ → ℤ) (o : ℕ) (w : ℕ → ℤ) (j : ℕ) → j < entries d → slope_enclosure d h xi q u o w j ≡ slope_enclosure d k yi q u o w j
  slope_same xi yi alike q u o w j l t = product_of (sum_of (gradient_same xi yi alike q u j l t) (gradient_same xi yi alike o w j l t)) (step_enclosure q u o w j)

  steepness_same : (xi yi : ℕ → ℤ) (alike : (i : ℕ) → i < d.states → xi i ≡ yi i) (q : ℕ) (u : ℕ → ℤ) (j : ℕ) → j < entries d → steepness d h xi q u j ≡ steepness d k yi q u j
  steepness_same xi yi alike q u j l t = ceil_of (magnitude (gradient_same xi yi alike q u j l t)) (2 ^ 16)

  rise_same : (xi yi : ℕ → ℤ) (alike : (i : ℕ) → i < d.states → xi i ≡ yi i) (q : ℕ) (u : ℕ → ℤ) (o : ℕ) (w : ℕ → ℤ) → rise d h xi q u o w ≡ rise d k yi q u o w
  rise_same xi yi alike q u o w = total_same (entries d) _ _ (λ j l. ap (λ (e : Enclosure). e.mid +ℤ e.rad) (slope_same xi yi alike q u o w j l))

  pull_same : (xi yi : ℕ → ℤ) (alike : (i : ℕ) → i < d.states → xi i ≡ yi i) (q : ℕ) (u : ℕ → ℤ) → pull d h xi q u ≡ pull d k yi q u
  pull_same xi yi alike q u = ap (λ (z : ℤ). pos d.cost_denominator *ℤ z) (total_same (entries d) _ _ (λ j l. ap square (steepness_same xi yi alike q u j l)))

  pub excess_same : (xi yi : ℕ → ℤ) (alike : (i : ℕ) → i < d.states → xi i ≡ yi i) (q : ℕ) (u : ℕ → ℤ) (o : ℕ) (w : ℕ → ℤ) → excess_at d h xi q u o w ≡ excess_at d k yi q u o w
  excess_same xi yi alike q u o w t = ceil_of (rise_same xi yi alike q u o w t) (2 ^ 25) +ℤ ceil_of (pull_same xi yi alike o w t) (2 ^ 34 * input_floor d)

  pub all_same : (p r : Plans) → excess_of d h p r ≡ excess_of d k p r
  all_same p r = greatest_same (2 ^ d.states) _ _ (λ c l. ap at_least_none (excess_same (corner d (suc c)) (corner d (suc c)) (λ i m. refl) (unsigned_abs (corner_denominator p (suc c))) (corner_plan p (suc c))
      (unsigned_abs (corner_denominator r (suc c))) (corner_plan r (suc c))))

  -- ---- the quantity
  number_size_same : (j : ℕ) → j < entries d → number_size d h j ≡ number_size d k j
  number_size_same j l t = max (greatest_same (entries d) _ _ (λ i m. ap reach (hessian_same j i l m)) t)
      (max (greatest_same d.states _ _ (λ i m. ap reach (linear_same j i l m)) t) (reach (constant_same j l t)))

  gradient_size_same : (xi yi : ℕ → ℤ) (alike : (i : ℕ) → i < d.states → xi i ≡ yi i) (q : ℕ) (u : ℕ → ℤ) (j : ℕ) → j < entries d → gradient_size d h xi q u j ≡ gradient_size d k yi q u j
  gradient_size_same xi yi alike q u j l t =
      max (max (unsigned_abs (magnitude_same (entries d) u u (hessian_at h j) (hessian_at k j) (λ i m. refl) (λ i m. hessian_same j i l m) t))
      (unsigned_abs (magnitude_same d.states xi yi (linear_at h j) (linear_at k j) alike (λ i m. linear_same j i l m) t)))
      (max (sum_reach (plan_same q u j l t) (state_same xi yi alike j l t)) (sum_reach (sum_of (plan_same q u j l t) (state_same xi yi alike j l t)) (constant_same j l t)))

  slope_size_same : (xi yi : ℕ → ℤ) (alike : (i : ℕ) → i < d.states → xi i ≡ yi i) (q : ℕ) (u : ℕ → ℤ) (o : ℕ) (w : ℕ → ℤ) (j : ℕ) → j < entries d → slope_size d h xi q u o w j ≡ slope_size d k yi q u o w j
  slope_size_same xi yi alike q u o w j l t =
      max (max (gradient_size_same xi yi alike q u j l t) (gradient_size_same xi yi alike o w j l t))
      (max (sum_reach (gradient_same xi yi alike q u j l t) (gradient_same xi yi alike o w j l t))
      (max (sum_reach (enclosed (u j) q) (enclosed (neg_ℤ (w j)) o))
      (product_reach (sum_of (gradient_same xi yi alike q u j l t) (gradient_same xi yi alike o w j l t)) (step_enclosure q u o w j))))

  pub size_same : (xi yi : ℕ → ℤ) (alike : (i : ℕ) → i < d.states → xi i ≡ yi i) (q : ℕ) (u : ℕ → ℤ) (o : ℕ) (w : ℕ → ℤ) → excess_size_at d h xi q u o w ≡ excess_size_at d k yi q u o w
  size_same xi yi alike q u o w t =
      max (max (greatest_same (entries d) _ _ (slope_size_same xi yi alike q u o w) t) (unsigned_abs (total_same (entries d) _ _ (λ j l. ap magnitude (slope_same xi yi alike q u o w j l)) t)))
      (max (unsigned_abs (pull_same xi yi alike o w t)) (unsigned_abs (excess_same xi yi alike q u o w t)))

  pub sizes_same : (p r : Plans) → excess_size d h p r ≡ excess_size d k p r
  sizes_same p r t = max (greatest_same (entries d) _ _ number_size_same t) (greatest_same (2 ^ d.states) _ _ (λ c l.
      size_same (corner d (suc c)) (corner d (suc c)) (λ i m. refl) (unsigned_abs (corner_denominator p (suc c))) (corner_plan p (suc c)) (unsigned_abs (corner_denominator r (suc c))) (corner_plan r (suc c))) t)

-- ---- the form itself
pub itself : (h : Form) → HaveSameNumbers h h
itself h = record {
  entries = refl;
  states = refl;
  rows = refl;
  hessian = λ i j l m. refl;
  linear = λ j i l m. refl;
  constant = λ j l. refl;
  by_plan = λ i j l m. refl;
  by_state = λ i j l m. refl;
  bound = λ i l. refl;
  hessian_radius = λ i j l m. refl;
  linear_radius = λ j i l m. refl;
  constant_radius = λ j l. refl;
  plan_radius = λ i j l m. refl;
  state_radius = λ i j l m. refl;
  hessian_scale = refl;
  rows_scale = refl;
  matrix_factor = refl;
  row_factor = refl;
  floor = refl;
  spread = refl;
}
