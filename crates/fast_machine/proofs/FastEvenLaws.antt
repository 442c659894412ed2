-- A run of the accelerated method whose steps all have the same bounds.
use Rattle.std.proofs.Common.{◌≡◌, ℕ, zero, suc, [], ◌∷◌, ℤ, pos, ◌+ℤ◌, ◌*ℤ◌, ◌≤ℤ◌, arith, refl}
use Rattle.std.proofs.lemmas.Int.{ints}
use Rattle.integer_algebra.specs.Sums.{total, square}
use Rattle.integer_algebra.proofs.OrderLaws.{le_trans_z, le_of_lt_z, add-le-add_z, le_by, mul_nonneg_z, square_nonneg_z, mul-le-mul_left_z}
use Rattle.integer_algebra.proofs.SumLaws.{total_add, total_scale, total_mono, total_nonneg}
use Rattle.integer_algebra.proofs.Quoting.{by_ring, quotes}
use Rattle.qp_model.specs.method.Dual.{Program}
use Rattle.fast_machine.specs.Fast.{weight, weights, carried, run_errors, HasEvenErrors, FastEvenLaw}
use Rattle.fast_machine.proofs.WeightLaws.{weight_nonneg, weights_nonneg}
use Rattle.fast_machine.proofs.FastRunLaws.{run_law}

-- ---- the errors
-- of one step, at numbers alone: n are the weights with its own
one_step : (s r top a n alphas betas f g : ℤ) → pos 0 ≤ℤ s → pos 0 ≤ℤ r → pos 0 ≤ℤ a → pos 0 ≤ℤ n → alphas ≤ℤ f → (top *ℤ betas) ≤ℤ g →
    (s *ℤ n *ℤ alphas +ℤ pos 2 *ℤ r *ℤ top *ℤ a *ℤ betas) ≤ℤ (s *ℤ f *ℤ n +ℤ pos 2 *ℤ r *ℤ g *ℤ a)
one_step s r top a n x y f g ps pr pa pn kx ky = le_by
    (add-le-add_z (mul-le-mul_left_z (s *ℤ n) (mul_nonneg_z s n ps pn) kx)
    (mul-le-mul_left_z (pos 2 *ℤ (r *ℤ a)) (mul_nonneg_z (pos 2) (r *ℤ a) (omega (arith, ints)) (mul_nonneg_z r a pr pa)) ky))
    (by_ring (s ∷ r ∷ top ∷ a ∷ n ∷ x ∷ y ∷ f ∷ g ∷ []) (search quotes depth 60 fits 20000) refl)

-- of all steps
bounded : (p : Program) (top q e f g j : ℤ) (n : ℕ) (alpha beta : ℕ → ℕ → ℤ) → pos 0 ≤ℤ p.rho → pos 0 ≤ℤ p.rho_denominator →
    HasEvenErrors p top q e f g j n alpha beta →
    run_errors p top n alpha beta ≤ℤ (p.rho_denominator *ℤ f *ℤ carried n +ℤ pos 2 *ℤ p.rho *ℤ g *ℤ weights n)
bounded p top q e f g j n alpha beta pr ps even =
    rw (← (parts n (p.rho_denominator *ℤ f) (pos 2 *ℤ p.rho *ℤ g) (λ k. weights k +ℤ weight k) weight))
    (total_mono n _ _ (λ k l. one_step p.rho_denominator p.rho top (weight k) (weights k +ℤ weight k)
    (total p.cost.entries (λ i. square (alpha k i))) (total p.rows (beta k)) f g
    ps pr (weight_nonneg k) (weights_nonneg (suc k)) (even.gradients k l) (even.rows k l)))
  where
    parts : (n : ℕ) (a b : ℤ) (x y : ℕ → ℤ) → total n (λ k. a *ℤ x k +ℤ b *ℤ y k) ≡ a *ℤ total n x +ℤ b *ℤ total n y
    parts n a b x y = simp (total_add, total_scale)

-- the bound of the squares is not negative, where there is a step; where there is none, nothing accumulates
accumulated : (p : Program) (top q e f g j : ℤ) (n : ℕ) (alpha beta : ℕ → ℕ → ℤ) → HasEvenErrors p top q e f g j n alpha beta →
    (f *ℤ carried n) ≤ℤ (f *ℤ (j *ℤ weights n))
accumulated p top q e f g j zero alpha beta even = none f j
  where
    none : (f j : ℤ) → (f *ℤ pos 0) ≤ℤ (f *ℤ (j *ℤ pos 0))
    none f j = le_by (nothing (pos 0)) (by_ring (f ∷ j ∷ []) (search quotes depth 60 fits 20000) refl)
      where
        nothing : (a : ℤ) → a ≤ℤ a
        nothing a = omega (arith, ints)
accumulated p top q e f g j (suc n) alpha beta even =
    mul-le-mul_left_z f (le_trans_z (total_nonneg p.cost.entries _ (λ i l. square_nonneg_z (alpha 0 i))) (even.gradients 0 (omega arith))) even.carry

-- together, at numbers alone: w are the weights of the steps
together : (s r q e j w f g c : ℤ) → pos 0 ≤ℤ s → pos 0 ≤ℤ w → (f *ℤ c) ≤ℤ (f *ℤ (j *ℤ w)) →
    (s *ℤ j *ℤ f +ℤ pos 2 *ℤ r *ℤ g) ≤ℤ (pos 2 *ℤ r *ℤ q *ℤ e) →
    (s *ℤ f *ℤ c +ℤ pos 2 *ℤ r *ℤ g *ℤ w) ≤ℤ (pos 2 *ℤ r *ℤ w *ℤ q *ℤ e)
together s r q e j w f g c ps pw h k = le_by (add-le-add_z (mul-le-mul_left_z s ps h) (mul-le-mul_left_z w pw k))
    (by_ring (s ∷ r ∷ q ∷ e ∷ j ∷ w ∷ f ∷ g ∷ c ∷ []) (search quotes depth 60 fits 20000) refl)

-- greater errors
loosened : (a b c d l x y : ℤ) → pos 0 ≤ℤ a → pos 0 ≤ℤ b → pos 0 ≤ℤ c → x ≤ℤ y → l ≤ℤ (d +ℤ a *ℤ b *ℤ c *ℤ x) → l ≤ℤ (d +ℤ a *ℤ b *ℤ c *ℤ y)
loosened a b c d l x y pa pb pc h k =
    le_trans_z k (add-le-add_z (same d) (mul-le-mul_left_z (a *ℤ b *ℤ c) (mul_nonneg_z (a *ℤ b) c (mul_nonneg_z a b pa pb) pc) h))
  where
    same : (d : ℤ) → d ≤ℤ d
    same d = omega (arith, ints)

pub even_law : FastEvenLaw
even_law p scale rest common top q e f g j n c u y v alpha beta run even w b t ft =
    loosened p.cost_denominator p.row_denominator (weights n) _ _ (run_errors p top n alpha beta) (pos 2 *ℤ p.rho *ℤ weights n *ℤ q *ℤ e)
    (le_of_lt_z c.cost_denominator) (le_of_lt_z c.row_denominator) (weights_nonneg n)
    (le_trans_z (bounded p top q e f g j n alpha beta (le_of_lt_z c.rho) (le_of_lt_z c.rho_denominator) even)
    (together p.rho_denominator p.rho q e j (weights n) f g (carried n) (le_of_lt_z c.rho_denominator) (weights_nonneg n)
    (accumulated p top q e f g j n alpha beta even) even.together))
    (run_law p scale rest common top q n c u y v alpha beta run w b t ft)
