-- A plan with its numerators and its denominator times one number.
use Rattle.std.proofs.Common.{◌≡◌, ℕ, zero, suc, ◌+◌, ◌-◌, ◌*◌, ◌/◌, ◌%◌, ◌^◌, ◌<◌, Bool, true, false, nat_lt, if◌then◌else◌, [], ◌∷◌, ℤ, pos, ◌+ℤ◌, ◌-ℤ◌, ◌*ℤ◌, arith, ap₂, sym, ◌∙◌, refl}
use Rattle.std.proofs.lemmas.Int.{ints}
use Rattle.std.proofs.Math.IntN.{*ℤ-zero}
use mathlib.Core.Path.{fun_ext}
use Rattle.integer_algebra.specs.Sums.{total, dot, square, none}
use Rattle.integer_algebra.proofs.RingLaws.{mul_assoc_z}
use Rattle.integer_algebra.proofs.SumLaws.{total_same, total_scale}
use Rattle.integer_algebra.proofs.VectorLaws.{dot_same, dot_scale_right, image_same, image_scale}
use Rattle.integer_algebra.proofs.Quoting.{by_ring, quotes}
use Rattle.qp_model.specs.problem.Design.{Design, CostRow, LimitRow}
use Rattle.qp_model.specs.problem.Trajectory.{trajectory, lift}
use Rattle.qp_model.specs.problem.Cost.{cost, cost_term}
use Rattle.qp_model.specs.problem.Residual.{stage_residual, final_residual}
use Rattle.qp_model.specs.problem.Scaling.{ScalingLaw}

-- a trajectory
scaled : (d : Design) (c q : ℤ) (xi u : ℕ → ℤ) (k i : ℕ) → trajectory d (c *ℤ q) xi (λ j. c *ℤ u j) k i ≡ c *ℤ trajectory d q xi u k i
scaled d c q xi u zero i = mul_assoc_z c q (xi i)
scaled d c q xi u (suc k) i = closed c (pos (2 ^ d.grid * d.plant_denominator ^ k)) _ _
    (image_same d.states d.plant_a _ _ i (λ j l. scaled d c q xi u k j) ∙ image_scale d.states d.plant_a c (trajectory d q xi u k) i)
    (image_scale d.inputs d.plant_b c (λ l. u (k * d.inputs + l)) i)
  where
    closed : (c a m n : ℤ) {p r : ℤ} → p ≡ c *ℤ m → r ≡ c *ℤ n → p +ℤ a *ℤ r ≡ c *ℤ (m +ℤ a *ℤ n)
    closed c a m n e k = rw (e, k) (by_ring (c ∷ a ∷ m ∷ n ∷ []) (search quotes depth 60 fits 20000) refl)

-- a row of a trajectory
row_scaled : (d : Design) (c q : ℤ) (xi u : ℕ → ℤ) (k : ℕ) (r : ℕ → ℤ) →
    dot d.states r (trajectory d (c *ℤ q) xi (λ j. c *ℤ u j) k) ≡ c *ℤ dot d.states r (trajectory d q xi u k)
row_scaled d c q xi u k r = dot_same d.states r _ _ (λ i l. scaled d c q xi u k i) ∙ dot_scale_right d.states c r (trajectory d q xi u k)

-- ---- the cost
-- a number is c^2 times another; a record, so that antt finds them
record IsScaled (c a b : ℤ) : Type 0 where
  is : a ≡ square c *ℤ b

term_scaled : (d : Design) (c q : ℤ) (xi u : ℕ → ℤ) (k : ℕ) (r : CostRow) →
    IsScaled c (cost_term d (c *ℤ q) xi (λ j. c *ℤ u j) k r) (cost_term d q xi u k r)
term_scaled d c q xi u k r = record {
  is =
      closed c q r.weight (lift d k) (pos (2 ^ d.grid)) (pos (d.plant_denominator ^ k)) r.target (dot d.states r.coefficient (trajectory d q xi u k))
      (row_scaled d c q xi u k r.coefficient);
}
  where
    closed : (c q w a g p t x : ℤ) {y : ℤ} → y ≡ c *ℤ x →
        w *ℤ square (a *ℤ (y -ℤ g *ℤ (c *ℤ q) *ℤ p *ℤ t)) ≡ square c *ℤ (w *ℤ square (a *ℤ (x -ℤ g *ℤ q *ℤ p *ℤ t)))
    closed c q w a g p t x e = rw e (by_ring (c ∷ q ∷ w ∷ a ∷ g ∷ p ∷ t ∷ x ∷ []) (search quotes depth 60 fits 20000) refl)

total_scaled : (n : ℕ) (c : ℤ) (f g : ℕ → ℤ) → ((i : ℕ) → i < n → IsScaled c (f i) (g i)) → IsScaled c (total n f) (total n g)
total_scaled n c f g h = record { is = total_same n _ _ (λ i l. (h i l).is) ∙ total_scale n (square c) g }

cost_is_scaled : (d : Design) (c q : ℤ) (xi u : ℕ → ℤ) → cost d (c *ℤ q) xi (λ j. c *ℤ u j) ≡ square c *ℤ cost d q xi u
cost_is_scaled d c q xi u = joined c _ _ _ _ _ _
    (total_scaled d.stages c _ _ (λ k l. total_scaled d.stage_costs c _ _ (λ r m. term_scaled d c q xi u (suc k) (d.stage_cost r))))
    (total_scaled d.final_costs c _ _ (λ r m. term_scaled d c q xi u d.stages (d.final_cost r)))
    (total_scaled d.stages c _ _ (λ k l. total_scaled d.inputs c _ _ (λ r m.
    own c (d.input_weight r) (pos (d.row_denominator * 2 ^ d.grid * d.plant_denominator ^ d.stages)) (u (k * d.inputs + r)))))
  where
    own : (c w a x : ℤ) → IsScaled c (w *ℤ square (a *ℤ (c *ℤ x))) (w *ℤ square (a *ℤ x))
    own c w a x = record { is = by_ring (c ∷ w ∷ a ∷ x ∷ []) (search quotes depth 60 fits 20000) refl }

    joined : (c a b e f g h : ℤ) → IsScaled c a b → IsScaled c e f → IsScaled c g h → a +ℤ e +ℤ g ≡ square c *ℤ (b +ℤ f +ℤ h)
    joined c a b e f g h x y z = rw (x.is, y.is, z.is) (by_ring (c ∷ b ∷ f ∷ h ∷ []) (search quotes depth 60 fits 20000) refl)

-- the cost of no input
pub cost_scaled : (d : Design) (q : ℤ) (xi : ℕ → ℤ) → cost d q xi none ≡ square q *ℤ cost d (pos 1) xi none
cost_scaled d q xi = ap₂ (λ (a : ℤ) (f : ℕ → ℤ). cost d a xi f) (times_one q) (fun_ext (λ j. sym (*ℤ-zero q))) ∙ cost_is_scaled d q (pos 1) xi none
  where
    times_one : (q : ℤ) → q ≡ q *ℤ pos 1
    times_one q = omega (arith, ints)

-- ---- the residuals
stage_scaled : (d : Design) (c q : ℤ) (xi u : ℕ → ℤ) (k : ℕ) (r : LimitRow) →
    stage_residual d (c *ℤ q) xi (λ j. c *ℤ u j) k r ≡ c *ℤ stage_residual d q xi u k r
stage_scaled d c q xi u k r = closed c q (lift d k) (pos (2 ^ d.grid)) (pos (d.plant_denominator ^ k)) r.bound
    (dot d.states r.of_state (trajectory d q xi u k)) (dot d.inputs r.of_input (λ l. u (k * d.inputs + l)))
    (row_scaled d c q xi u k r.of_state) (dot_scale_right d.inputs c r.of_input (λ l. u (k * d.inputs + l)))
  where
    closed : (c q a g p t x w : ℤ) {y v : ℤ} → y ≡ c *ℤ x → v ≡ c *ℤ w →
        a *ℤ (y +ℤ g *ℤ p *ℤ v -ℤ g *ℤ (c *ℤ q) *ℤ p *ℤ t) ≡ c *ℤ (a *ℤ (x +ℤ g *ℤ p *ℤ w -ℤ g *ℤ q *ℤ p *ℤ t))
    closed c q a g p t x w e k = rw (e, k) (by_ring (c ∷ q ∷ a ∷ g ∷ p ∷ t ∷ x ∷ w ∷ []) (search quotes depth 60 fits 20000) refl)

final_scaled : (d : Design) (c q : ℤ) (xi u : ℕ → ℤ) (r : LimitRow) →
    final_residual d (c *ℤ q) xi (λ j. c *ℤ u j) r ≡ c *ℤ final_residual d q xi u r
final_scaled d c q xi u r = closed c q (pos (2 ^ d.grid)) (pos (d.plant_denominator ^ d.stages)) r.bound
    (dot d.states r.of_state (trajectory d q xi u d.stages)) (row_scaled d c q xi u d.stages r.of_state)
  where
    closed : (c q g p t x : ℤ) {y : ℤ} → y ≡ c *ℤ x → y -ℤ g *ℤ (c *ℤ q) *ℤ p *ℤ t ≡ c *ℤ (x -ℤ g *ℤ q *ℤ p *ℤ t)
    closed c q g p t x e = rw e (by_ring (c ∷ q ∷ g ∷ p ∷ t ∷ x ∷ []) (search quotes depth 60 fits 20000) refl)

chosen : (b : Bool) (c v w : ℤ) {x y : ℤ} → x ≡ c *ℤ v → y ≡ c *ℤ w → (if b then x else y) ≡ c *ℤ (if b then v else w)
chosen true c v w e h = e
chosen false c v w e h = h

pub scaling_law : ScalingLaw
scaling_law d c q xi u = record {
  costs = cost_is_scaled d c q xi u;
  residuals = λ i. chosen (nat_lt i (d.stages * d.stage_limits)) c _ _
      (stage_scaled d c q xi u (i / d.stage_limits) (d.stage_limit (i % d.stage_limits)))
      (final_scaled d c q xi u (d.final_limit (i - d.stages * d.stage_limits)));
}
