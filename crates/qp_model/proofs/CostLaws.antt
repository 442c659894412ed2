-- The cost of a design as a quadratic in the plan.
use Rattle.std.proofs.Common.{◌≡◌, inl, inr, ℕ, zero, suc, ◌+◌, ◌-◌, ◌*◌, ◌/◌, ◌%◌, ◌^◌, ◌<◌, ◌≤◌, [], ◌∷◌, ℤ, pos, ◌+ℤ◌, ◌-ℤ◌, ◌*ℤ◌, neg_ℤ, nat_eq, if◌then◌else◌, arith, ap, sym, ◌∙◌, refl}
use Rattle.std.proofs.lemmas.Bool.{cases_lt, lt-ltb, le-ltb}
use Rattle.std.proofs.lemmas.Nat as NatLemmas
use Rattle.std.proofs.Math.Nat as Nat
use Rattle.integer_algebra.specs.Sums.{total, dot, image, square, none}
use Rattle.qp_model.specs.problem.Design.{Design, CostRow, LimitRow, entries}
use Rattle.qp_model.specs.problem.Residual.{stage_residual, final_residual, residual}
use Rattle.qp_model.specs.problem.Trajectory.{trajectory, lift}
use Rattle.qp_model.specs.problem.Cost.{cost, cost_term}
use Rattle.qp_model.specs.form.Condensed.{slope_at}
use Rattle.qp_model.specs.form.Condensing.{power, response, cost_plan, cost_state, cost_target, own_input, limit_plan, limit_state, final_plan, condensed_of, CondensingLaw}
use Rattle.qp_model.proofs.TrajectoryLaws.{trajectory_is, own_row}
use Rattle.integer_algebra.proofs.RingLaws.{add_equations, mul-add_z}
use Rattle.integer_algebra.proofs.SumLaws.{total_same, total_zero, total_add, total_scale}
use Rattle.integer_algebra.proofs.VectorLaws.{dot_same, dot_add, dot_add_right, dot_none, dot_scale, dot_through, quadratic_form_total, dot_total_left}
use Rattle.integer_algebra.proofs.PowerLaws.{four-pow}
use Rattle.integer_algebra.proofs.BlockLaws.{choose_times, total_single}
use Rattle.integer_algebra.proofs.Quoting.{by_ring, quotes}

-- A part of the cost, as a quadratic: twice it is its value at no input, g^2 u'Hu and 2 g q s'u.
pub record IsQuadratic (n : ℕ) (g : ℤ) (v : ℤ → (ℕ → ℤ) → ℤ) (h : ℕ → ℕ → ℤ) (s : ℕ → ℤ) : Type 0 where
  pub is : (q : ℤ) (u : ℕ → ℤ) → pos 2 *ℤ v q u ≡ pos 2 *ℤ v q none +ℤ square g *ℤ dot n u (image n h u) +ℤ pos 2 *ℤ (g *ℤ q) *ℤ dot n s u

-- one weighted square of an affine form
quadratic_row : (n : ℕ) (g w o : ℤ) (a : ℕ → ℤ) →
    IsQuadratic n g (λ q u. w *ℤ square (g *ℤ dot n a u +ℤ q *ℤ o)) (λ i j. pos 2 *ℤ (w *ℤ (a i *ℤ a j))) (λ j. pos 2 *ℤ (w *ℤ (a j *ℤ o)))
quadratic_row n g w o a = record { is = λ q u. closed q (dot n a u) (dot n a none) _ _ (dot_none n a) (form u) (slope u) }
  where
    turn : (x y z : ℤ) → pos 2 *ℤ (w *ℤ (x *ℤ y)) *ℤ z ≡ pos 2 *ℤ w *ℤ x *ℤ (y *ℤ z)
    turn x y z = by_ring (w ∷ x ∷ y ∷ z ∷ []) (search quotes depth 60 fits 20000) refl

    turn_out : (x y z : ℤ) → x *ℤ (pos 2 *ℤ w *ℤ y *ℤ z) ≡ pos 2 *ℤ w *ℤ z *ℤ (y *ℤ x)
    turn_out x y z = by_ring (w ∷ x ∷ y ∷ z ∷ []) (search quotes depth 60 fits 20000) refl

    form : (u : ℕ → ℤ) → dot n u (image n (λ i j. pos 2 *ℤ (w *ℤ (a i *ℤ a j))) u) ≡ pos 2 *ℤ w *ℤ dot n a u *ℤ dot n a u
    form u = dot_same n u _ _ (λ i l. total_same n _ _ (λ j m. turn (a i) (a j) (u j)) ∙ total_scale n (pos 2 *ℤ w *ℤ a i) (λ j. a j *ℤ u j)) ∙
        total_same n _ _ (λ i l. turn_out (u i) (a i) (dot n a u)) ∙ total_scale n (pos 2 *ℤ w *ℤ dot n a u) (λ j. a j *ℤ u j)

    turn_slope : (x z : ℤ) → pos 2 *ℤ (w *ℤ (x *ℤ o)) *ℤ z ≡ pos 2 *ℤ w *ℤ o *ℤ (x *ℤ z)
    turn_slope x z = by_ring (w ∷ o ∷ x ∷ z ∷ []) (search quotes depth 60 fits 20000) refl

    slope : (u : ℕ → ℤ) → dot n (λ j. pos 2 *ℤ (w *ℤ (a j *ℤ o))) u ≡ pos 2 *ℤ w *ℤ o *ℤ dot n a u
    slope u = total_same n _ _ (λ j l. turn_slope (a j) (u j)) ∙ total_scale n (pos 2 *ℤ w *ℤ o) (λ j. a j *ℤ u j)

    closed : (q x z f s : ℤ) → z ≡ pos 0 → f ≡ pos 2 *ℤ w *ℤ x *ℤ x → s ≡ pos 2 *ℤ w *ℤ o *ℤ x →
        pos 2 *ℤ (w *ℤ square (g *ℤ x +ℤ q *ℤ o)) ≡ pos 2 *ℤ (w *ℤ square (g *ℤ z +ℤ q *ℤ o)) +ℤ square g *ℤ f +ℤ pos 2 *ℤ (g *ℤ q) *ℤ s
    closed q x z f s e h k = rw (e, h, k) (by_ring (w ∷ g ∷ o ∷ q ∷ x ∷ []) (search quotes depth 60 fits 20000) refl)

-- what is equal to a quadratic is one
quadratic_same : (n : ℕ) (g : ℤ) (v w : ℤ → (ℕ → ℤ) → ℤ) (h : ℕ → ℕ → ℤ) (s : ℕ → ℤ) → ((q : ℤ) (u : ℕ → ℤ) → v q u ≡ w q u) →
    IsQuadratic n g w h s → IsQuadratic n g v h s
quadratic_same n g v w h s e k = record { is = λ q u. rw (e q u, e q none) (k.is q u) }

-- sums of quadratics
quadratic_total : (n m : ℕ) (g : ℤ) (v : ℕ → ℤ → (ℕ → ℤ) → ℤ) (h : ℕ → ℕ → ℕ → ℤ) (s : ℕ → ℕ → ℤ) →
    ((k : ℕ) → k < m → IsQuadratic n g (v k) (h k) (s k)) →
    IsQuadratic n g (λ q u. total m (λ k. v k q u)) (λ i j. total m (λ k. h k i j)) (λ j. total m (λ k. s k j))
quadratic_total n m g v h s e = record {
  is = λ q u.
      rw (quadratic_form_total n m h u, dot_total_left n m s u) (sym (total_scale m (pos 2) (λ k. v k q u)) ∙ total_same m _ _ (λ k l. (e k l).is q u) ∙
      parts m (pos 2) (λ k. v k q none) (square g) (λ k. dot n u (image n (h k) u)) (pos 2 *ℤ (g *ℤ q)) (λ k. dot n (s k) u));
}
  where
    parts : (m : ℕ) (a : ℤ) (x : ℕ → ℤ) (b : ℤ) (y : ℕ → ℤ) (c : ℤ) (z : ℕ → ℤ) →
        total m (λ k. a *ℤ x k +ℤ b *ℤ y k +ℤ c *ℤ z k) ≡ a *ℤ total m x +ℤ b *ℤ total m y +ℤ c *ℤ total m z
    parts m a x b y c z = simp (total_add, total_scale)

quadratic_add : (n : ℕ) (g : ℤ) (v w : ℤ → (ℕ → ℤ) → ℤ) (h k : ℕ → ℕ → ℤ) (s t : ℕ → ℤ) → IsQuadratic n g v h s → IsQuadratic n g w k t →
    IsQuadratic n g (λ q u. v q u +ℤ w q u) (λ i j. h i j +ℤ k i j) (λ j. s j +ℤ t j)
quadratic_add n g v w h k s t e f = record {
  is = λ q u.
      closed (square g) (pos 2 *ℤ (g *ℤ q)) (v q u) (w q u) (v q none) (w q none) _ _ _ _ _ _
      (dot_same n u _ _ (λ i l. total_same n _ _ (λ j o. spread (h i j) (k i j) (u j)) ∙ total_add n (λ j. h i j *ℤ u j) (λ j. k i j *ℤ u j)) ∙
      dot_add_right n u (image n h u) (image n k u)) (dot_add n s t u) (e.is q u) (f.is q u);
}
  where
    spread : (a b x : ℤ) → (a +ℤ b) *ℤ x ≡ a *ℤ x +ℤ b *ℤ x
    spread a b x = by_ring (a ∷ b ∷ x ∷ []) (search quotes depth 60 fits 20000) refl

    closed : (g p x y a b f s c d m r : ℤ) → f ≡ c +ℤ d → s ≡ m +ℤ r → pos 2 *ℤ x ≡ pos 2 *ℤ a +ℤ g *ℤ c +ℤ p *ℤ m → pos 2 *ℤ y ≡ pos 2 *ℤ b +ℤ g *ℤ d +ℤ p *ℤ r →
        pos 2 *ℤ (x +ℤ y) ≡ pos 2 *ℤ (a +ℤ b) +ℤ g *ℤ f +ℤ p *ℤ s
    closed g p x y a b f s c d m r i j z o = rw (i, j, mul-add_z (pos 2) x y) (rw (z, o)
        (by_ring (g ∷ p ∷ a ∷ b ∷ c ∷ d ∷ m ∷ r ∷ []) (search quotes depth 60 fits 20000) refl))

-- ---- one cost row
-- what a row of the state at a stage is
row_is : (d : Design) (q : ℤ) (xi u : ℕ → ℤ) (k : ℕ) (c : ℕ → ℤ) → k ≤ d.stages →
    dot d.states c (trajectory d q xi u k) ≡
    q *ℤ dot d.states (λ j. total d.states (λ i. c i *ℤ power d k i j)) xi +ℤ
    pos (2 ^ d.grid) *ℤ dot (entries d) (λ j. total d.states (λ i. c i *ℤ response d k i j)) u
row_is d q xi u k c l =
    dot_same d.states c _ _ (λ i o. trajectory_is d q xi u k i l o) ∙
    total_same d.states _ _ (λ i o. turn (c i) q (total d.states (λ j. power d k i j *ℤ xi j)) (pos (2 ^ d.grid)) (image (entries d) (response d k) u i)) ∙
    parts d.states q (λ i. c i *ℤ image d.states (power d k) xi i) (pos (2 ^ d.grid)) (λ i. c i *ℤ image (entries d) (response d k) u i) ∙
    joined q (pos (2 ^ d.grid)) _ _ _ _ (dot_through d.states d.states c (power d k) xi) (dot_through d.states (entries d) c (response d k) u)
  where
    turn : (c q x g y : ℤ) → c *ℤ (q *ℤ x +ℤ g *ℤ y) ≡ q *ℤ (c *ℤ x) +ℤ g *ℤ (c *ℤ y)
    turn c q x g y = by_ring (c ∷ q ∷ x ∷ g ∷ y ∷ []) (search quotes depth 60 fits 20000) refl

    parts : (n : ℕ) (a : ℤ) (x : ℕ → ℤ) (b : ℤ) (y : ℕ → ℤ) → total n (λ i. a *ℤ x i +ℤ b *ℤ y i) ≡ a *ℤ total n x +ℤ b *ℤ total n y
    parts n a x b y = simp (total_add, total_scale)

    joined : (a b x y z w : ℤ) → x ≡ z → y ≡ w → a *ℤ x +ℤ b *ℤ y ≡ a *ℤ z +ℤ b *ℤ w
    joined a b x y z w e f = rw (e, f) refl

cost_row : (d : Design) (q : ℤ) (xi u : ℕ → ℤ) (k : ℕ) (r : CostRow) → k ≤ d.stages →
    cost_term d q xi u k r ≡ r.weight *ℤ square (pos (2 ^ d.grid) *ℤ dot (entries d) (cost_plan d k r) u +ℤ
    q *ℤ (dot d.states (cost_state d k r) xi -ℤ pos (2 ^ d.grid) *ℤ cost_target d k r))
cost_row d q xi u k r l = ap (λ (z : ℤ). r.weight *ℤ square z)
    (closed (lift d k) q (pos (2 ^ d.grid)) (pos (d.plant_denominator ^ k)) r.target _ _ _ _ _ (row_is d q xi u k r.coefficient l)
    (dot_scale d.states (lift d k) (λ j. total d.states (λ i. r.coefficient i *ℤ power d k i j)) xi)
    (dot_scale (entries d) (lift d k) (λ j. total d.states (λ i. r.coefficient i *ℤ response d k i j)) u))
  where
    closed : (a q g p t x f h y z : ℤ) → x ≡ q *ℤ f +ℤ g *ℤ h → y ≡ a *ℤ f → z ≡ a *ℤ h →
        a *ℤ (x -ℤ g *ℤ q *ℤ p *ℤ t) ≡ g *ℤ z +ℤ q *ℤ (y -ℤ g *ℤ (a *ℤ (p *ℤ t)))
    closed a q g p t x f h y z i j k = rw (i, j, k) (by_ring (a ∷ q ∷ g ∷ p ∷ t ∷ f ∷ h ∷ []) (search quotes depth 60 fits 20000) refl)

cost_quadratic : (d : Design) (xi : ℕ → ℤ) (k : ℕ) (r : CostRow) → k ≤ d.stages →
    IsQuadratic (entries d) (pos (2 ^ d.grid)) (λ q u. cost_term d q xi u k r)
    (λ i j. pos 2 *ℤ (r.weight *ℤ (cost_plan d k r i *ℤ cost_plan d k r j)))
    (λ j. pos 2 *ℤ (r.weight *ℤ (cost_plan d k r j *ℤ (dot d.states (cost_state d k r) xi -ℤ pos (2 ^ d.grid) *ℤ cost_target d k r))))
cost_quadratic d xi k r l = quadratic_same _ _ _ _ _ _ (λ q u. cost_row d q xi u k r l)
    (quadratic_row (entries d) (pos (2 ^ d.grid)) r.weight (dot d.states (cost_state d k r) xi -ℤ pos (2 ^ d.grid) *ℤ cost_target d k r) (cost_plan d k r))

-- ---- one input
input_quadratic : (d : Design) (k l : ℕ) → k < d.stages → l < d.inputs →
    IsQuadratic (entries d) (pos (2 ^ d.grid))
    (λ q u. d.input_weight l *ℤ square (pos (d.row_denominator * 2 ^ d.grid * d.plant_denominator ^ d.stages) *ℤ u (k * d.inputs + l)))
    (λ i j. pos 2 *ℤ (d.input_weight l *ℤ (own_input d k l i *ℤ own_input d k l j)))
    (λ j. pos 2 *ℤ (d.input_weight l *ℤ (own_input d k l j *ℤ pos 0)))
input_quadratic d k l a b = quadratic_same _ _ _ _ _ _ (λ q u. ap (λ (z : ℤ). d.input_weight l *ℤ square z)
    (closed (pos (d.row_denominator * 2 ^ d.grid * d.plant_denominator ^ d.stages)) (pos (2 ^ d.grid)) (pos (d.row_denominator * d.plant_denominator ^ d.stages)) q (u (k * d.inputs + l)) _
    (ap pos (turn d.row_denominator (2 ^ d.grid) (d.plant_denominator ^ d.stages))) (single u)))
    (quadratic_row (entries d) (pos (2 ^ d.grid)) (d.input_weight l) (pos 0) (own_input d k l))
  where
    turn : (a b c : ℕ) → a * b * c ≡ b * (a * c)
    turn a b c = omega arith

    inside : k * d.inputs + l < d.stages * d.inputs
    inside = omega (arith, NatLemmas.mul-add-lt k d.inputs l d.stages a b, Nat.mul_comm d.inputs d.stages)

    single : (u : ℕ → ℤ) → dot (entries d) (own_input d k l) u ≡ pos (d.row_denominator * d.plant_denominator ^ d.stages) *ℤ u (k * d.inputs + l)
    single u = total_same (entries d) _ _ (λ j m. choose_times (nat_eq j (k * d.inputs + l)) (pos (d.row_denominator * d.plant_denominator ^ d.stages)) (u j)) ∙
        total_single (entries d) (k * d.inputs + l) (λ j. pos (d.row_denominator * d.plant_denominator ^ d.stages) *ℤ u j) inside

    closed : (p g r q x z : ℤ) → p ≡ g *ℤ r → z ≡ r *ℤ x → p *ℤ x ≡ g *ℤ z +ℤ q *ℤ pos 0
    closed p g r q x z e f = rw (e, f) (by_ring (g ∷ r ∷ q ∷ x ∷ []) (search quotes depth 60 fits 20000) refl)

-- ---- the whole cost
-- sums of what is a state's part and a target's part
linear_total : (m n : ℕ) (g : ℤ) (f : ℕ → ℕ → ℤ) (h : ℕ → ℤ) (x : ℕ → ℤ) →
    total m (λ k. dot n (f k) x +ℤ g *ℤ h k) ≡ dot n (λ i. total m (λ k. f k i)) x +ℤ g *ℤ total m h
linear_total m n g f h x = total_add m (λ k. dot n (f k) x) (λ k. g *ℤ h k) ∙
    add_equations (sym (dot_total_left n m f x)) (total_scale m g h)

-- one row's slope, by the state's and the target's part
slope_row : (n : ℕ) (w a g t : ℤ) (e x : ℕ → ℤ) →
    pos 2 *ℤ (w *ℤ (a *ℤ (dot n e x -ℤ g *ℤ t))) ≡ dot n (λ i. pos 2 *ℤ (w *ℤ (a *ℤ e i))) x +ℤ g *ℤ neg_ℤ (pos 2 *ℤ (w *ℤ (a *ℤ t)))
slope_row n w a g t e x = closed (dot n e x) _ (total_same n _ _ (λ i l. turn (e i) (x i)) ∙ total_scale n (pos 2 *ℤ w *ℤ a) (λ i. e i *ℤ x i))
  where
    turn : (e x : ℤ) → pos 2 *ℤ (w *ℤ (a *ℤ e)) *ℤ x ≡ pos 2 *ℤ w *ℤ a *ℤ (e *ℤ x)
    turn e x = by_ring (w ∷ a ∷ e ∷ x ∷ []) (search quotes depth 60 fits 20000) refl

    closed : (d y : ℤ) → y ≡ pos 2 *ℤ w *ℤ a *ℤ d → pos 2 *ℤ (w *ℤ (a *ℤ (d -ℤ g *ℤ t))) ≡ y +ℤ g *ℤ neg_ℤ (pos 2 *ℤ (w *ℤ (a *ℤ t)))
    closed d y e = rw e (by_ring (w ∷ a ∷ g ∷ t ∷ d ∷ []) (search quotes depth 60 fits 20000) refl)

-- the slope of the whole cost
slope_whole : (d : Design) (xi : ℕ → ℤ) (j : ℕ) →
    total d.stages (λ k. total d.stage_costs (λ r. pos 2 *ℤ ((d.stage_cost r).weight *ℤ (cost_plan d (suc k) (d.stage_cost r) j *ℤ
    (dot d.states (cost_state d (suc k) (d.stage_cost r)) xi -ℤ pos (2 ^ d.grid) *ℤ cost_target d (suc k) (d.stage_cost r)))))) +ℤ
    total d.final_costs (λ r. pos 2 *ℤ ((d.final_cost r).weight *ℤ (cost_plan d d.stages (d.final_cost r) j *ℤ
    (dot d.states (cost_state d d.stages (d.final_cost r)) xi -ℤ pos (2 ^ d.grid) *ℤ cost_target d d.stages (d.final_cost r))))) +ℤ
    total d.stages (λ k. total d.inputs (λ l. pos 2 *ℤ (d.input_weight l *ℤ (own_input d k l j *ℤ pos 0)))) ≡
    slope_at d (condensed_of d) xi j
slope_whole d xi j = closed _ _ _ _ _ (pos (2 ^ d.grid)) _ _
    (total_same d.stages _ _ (λ k l. total_same d.stage_costs _ _ (λ r o. slope_row d.states (d.stage_cost r).weight (cost_plan d (suc k) (d.stage_cost r) j)
    (pos (2 ^ d.grid)) (cost_target d (suc k) (d.stage_cost r)) (cost_state d (suc k) (d.stage_cost r)) xi) ∙
    linear_total d.stage_costs d.states (pos (2 ^ d.grid)) (λ r i. pos 2 *ℤ ((d.stage_cost r).weight *ℤ (cost_plan d (suc k) (d.stage_cost r) j *ℤ cost_state d (suc k) (d.stage_cost r) i)))
    (λ r. neg_ℤ (pos 2 *ℤ ((d.stage_cost r).weight *ℤ (cost_plan d (suc k) (d.stage_cost r) j *ℤ cost_target d (suc k) (d.stage_cost r))))) xi) ∙
    linear_total d.stages d.states (pos (2 ^ d.grid))
    (λ k i. total d.stage_costs (λ r. pos 2 *ℤ ((d.stage_cost r).weight *ℤ (cost_plan d (suc k) (d.stage_cost r) j *ℤ cost_state d (suc k) (d.stage_cost r) i))))
    (λ k. total d.stage_costs (λ r. neg_ℤ (pos 2 *ℤ ((d.stage_cost r).weight *ℤ (cost_plan d (suc k) (d.stage_cost r) j *ℤ cost_target d (suc k) (d.stage_cost r)))))) xi)
    (total_same d.final_costs _ _ (λ r o. slope_row d.states (d.final_cost r).weight (cost_plan d d.stages (d.final_cost r) j)
    (pos (2 ^ d.grid)) (cost_target d d.stages (d.final_cost r)) (cost_state d d.stages (d.final_cost r)) xi) ∙
    linear_total d.final_costs d.states (pos (2 ^ d.grid)) (λ r i. pos 2 *ℤ ((d.final_cost r).weight *ℤ (cost_plan d d.stages (d.final_cost r) j *ℤ cost_state d d.stages (d.final_cost r) i)))
    (λ r. neg_ℤ (pos 2 *ℤ ((d.final_cost r).weight *ℤ (cost_plan d d.stages (d.final_cost r) j *ℤ cost_target d d.stages (d.final_cost r))))) xi)
    (total_same d.stages _ _ (λ k l. total_same d.inputs _ _ (λ r o. nought (d.input_weight r) (own_input d k r j)) ∙ total_zero d.inputs) ∙ total_zero d.stages)
    (dot_add d.states _ _ xi)
  where
    nought : (w a : ℤ) → pos 2 *ℤ (w *ℤ (a *ℤ pos 0)) ≡ pos 0
    nought w a = by_ring (w ∷ a ∷ []) (search quotes depth 60 fits 20000) refl

    closed : (x y z a b g h k : ℤ) {s : ℤ} → x ≡ a +ℤ g *ℤ h → y ≡ b +ℤ g *ℤ k → z ≡ pos 0 → s ≡ a +ℤ b → x +ℤ y +ℤ z ≡ s +ℤ g *ℤ (h +ℤ k)
    closed x y z a b g h k e f i m = rw (e, f, i, m) (by_ring (a ∷ b ∷ g ∷ h ∷ k ∷ []) (search quotes depth 60 fits 20000) refl)

slope_same : (n : ℕ) (g : ℤ) (v : ℤ → (ℕ → ℤ) → ℤ) (h : ℕ → ℕ → ℤ) (s t : ℕ → ℤ) → ((j : ℕ) → s j ≡ t j) → IsQuadratic n g v h s → IsQuadratic n g v h t
slope_same n g v h s t e k = record { is = λ q u. rw (total_same n (λ j. t j *ℤ u j) (λ j. s j *ℤ u j) (λ j l. ap (λ (z : ℤ). z *ℤ u j) (sym (e j)))) (k.is q u) }

pub cost_whole : (d : Design) (xi : ℕ → ℤ) → IsQuadratic (entries d) (pos (2 ^ d.grid)) (λ q u. cost d q xi u) (condensed_of d).hessian (slope_at d (condensed_of d) xi)
cost_whole d xi = slope_same _ _ _ _ _ _ (slope_whole d xi)
    (quadratic_add _ _ _ _ _ _ _ _
    (quadratic_add _ _ _ _ _ _ _ _
    (quadratic_total _ d.stages _ _ _ _ (λ k l. quadratic_total _ d.stage_costs _ _ _ _ (λ r o. cost_quadratic d xi (suc k) (d.stage_cost r) l)))
    (quadratic_total _ d.final_costs _ _ _ _ (λ r o. cost_quadratic d xi d.stages (d.final_cost r) (omega arith))))
    (quadratic_total _ d.stages _ _ _ _ (λ k l. quadratic_total _ d.inputs _ _ _ _ (λ r o. input_quadratic d k r l o))))

costs : (d : Design) (q : ℤ) (xi u : ℕ → ℤ) →
    pos 2 *ℤ cost d q xi u ≡ pos 2 *ℤ cost d q xi none +ℤ
    pos (4 ^ d.grid) *ℤ dot (entries d) u (image (entries d) (condensed_of d).hessian u) +ℤ
    pos 2 *ℤ (pos (2 ^ d.grid) *ℤ q) *ℤ dot (entries d) (slope_at d (condensed_of d) xi) u
costs d q xi u = turned (pos 2 *ℤ cost d q xi u) (pos 2 *ℤ cost d q xi none) (dot (entries d) u (image (entries d) (condensed_of d).hessian u))
    (pos 2 *ℤ (pos (2 ^ d.grid) *ℤ q) *ℤ dot (entries d) (slope_at d (condensed_of d) xi) u) _ _ (ap pos (four-pow d.grid)) ((cost_whole d xi).is q u)
  where
    turned : (a b f s p r : ℤ) → p ≡ r → a ≡ b +ℤ r *ℤ f +ℤ s → a ≡ b +ℤ p *ℤ f +ℤ s
    turned a b f s p r e h = rw e h

-- ---- the rows
limit_row : (d : Design) (q : ℤ) (xi u : ℕ → ℤ) (k : ℕ) (r : LimitRow) → k < d.stages →
    stage_residual d q xi u k r ≡ pos (2 ^ d.grid) *ℤ dot (entries d) (limit_plan d k r) u +ℤ
    q *ℤ (dot d.states (limit_state d k r) xi -ℤ pos (2 ^ d.grid) *ℤ (lift d k *ℤ (pos (d.plant_denominator ^ k) *ℤ r.bound)))
limit_row d q xi u k r l =
    closed (lift d k) q (pos (2 ^ d.grid)) (pos (d.plant_denominator ^ k)) r.bound _ _ _ _ _ (dot d.inputs r.of_input (λ l. u (k * d.inputs + l)))
    (row_is d q xi u k r.of_state (omega arith))
    (dot_scale d.states (lift d k) (λ j. total d.states (λ i. r.of_state i *ℤ power d k i j)) xi)
    (dot_scale (entries d) (lift d k) _ u)
    (dot_add (entries d) (λ j. total d.states (λ i. r.of_state i *ℤ response d k i j))
    (λ j. if nat_eq (j / d.inputs) k then pos (d.plant_denominator ^ k) *ℤ r.of_input (j % d.inputs) else pos 0) u)
    (own_row d u k r.of_input l)
  where
    closed : (a q g p t x f h y z w : ℤ) {v o : ℤ} → x ≡ q *ℤ f +ℤ g *ℤ h → y ≡ a *ℤ f → z ≡ a *ℤ v → v ≡ h +ℤ o → o ≡ p *ℤ w →
        a *ℤ (x +ℤ g *ℤ p *ℤ w -ℤ g *ℤ q *ℤ p *ℤ t) ≡ g *ℤ z +ℤ q *ℤ (y -ℤ g *ℤ (a *ℤ (p *ℤ t)))
    closed a q g p t x f h y z w e i j k m = rw (e, i, j, k, m)
        (by_ring (a ∷ q ∷ g ∷ p ∷ t ∷ f ∷ h ∷ w ∷ []) (search quotes depth 60 fits 20000) refl)

final_row : (d : Design) (q : ℤ) (xi u : ℕ → ℤ) (r : LimitRow) →
    final_residual d q xi u r ≡ pos (2 ^ d.grid) *ℤ dot (entries d) (final_plan d r) u +ℤ
    q *ℤ (dot d.states (λ j. total d.states (λ h. r.of_state h *ℤ power d d.stages h j)) xi -ℤ pos (2 ^ d.grid) *ℤ (pos (d.plant_denominator ^ d.stages) *ℤ r.bound))
final_row d q xi u r = closed q (pos (2 ^ d.grid)) (pos (d.plant_denominator ^ d.stages)) r.bound _ _ _ (row_is d q xi u d.stages r.of_state (omega arith))
  where
    closed : (q g p t x f h : ℤ) → x ≡ q *ℤ f +ℤ g *ℤ h → x -ℤ g *ℤ q *ℤ p *ℤ t ≡ g *ℤ h +ℤ q *ℤ (f -ℤ g *ℤ (p *ℤ t))
    closed q g p t x f h e = rw e (by_ring (q ∷ g ∷ p ∷ t ∷ f ∷ h ∷ []) (search quotes depth 60 fits 20000) refl)

stage_inside : (i stages limits : ℕ) → i < stages * limits → i / limits < stages
stage_inside i stages zero l = absurd (omega arith)
stage_inside i stages (suc n) l = NatLemmas.div_below i (suc n) stages (omega arith) l

rows_hold : (d : Design) (q : ℤ) (xi u : ℕ → ℤ) (i : ℕ) →
    residual d q xi u i ≡ pos (2 ^ d.grid) *ℤ image (entries d) (condensed_of d).by_plan u i +ℤ
    q *ℤ (image d.states (condensed_of d).by_state xi i -ℤ pos (2 ^ d.grid) *ℤ (condensed_of d).bound i)
rows_hold d q xi u i = elim (cases_lt i (d.stages * d.stage_limits)) [
  | inl l ↦ rw (lt-ltb i (d.stages * d.stage_limits) l) (limit_row d q xi u (i / d.stage_limits) (d.stage_limit (i % d.stage_limits)) (stage_inside i d.stages d.stage_limits l))
  | inr l ↦ rw (le-ltb i (d.stages * d.stage_limits) l) (final_row d q xi u (d.final_limit (i - d.stages * d.stage_limits)))
]

pub condensing : CondensingLaw
condensing d h = record {
  symmetric = λ i j l m. joined _ _ _ _ _ _
      (total_same d.stages _ _ (λ k a. total_same d.stage_costs _ _ (λ r b. turn (d.stage_cost r).weight (cost_plan d (suc k) (d.stage_cost r) i) (cost_plan d (suc k) (d.stage_cost r) j))))
      (total_same d.final_costs _ _ (λ r b. turn (d.final_cost r).weight (cost_plan d d.stages (d.final_cost r) i) (cost_plan d d.stages (d.final_cost r) j)))
      (total_same d.stages _ _ (λ k a. total_same d.inputs _ _ (λ r b. turn (d.input_weight r) (own_input d k r i) (own_input d k r j))));
  rows = λ q xi u i l. rows_hold d q xi u i;
  costs = costs d;
}
  where
    turn : (w a b : ℤ) → pos 2 *ℤ (w *ℤ (a *ℤ b)) ≡ pos 2 *ℤ (w *ℤ (b *ℤ a))
    turn w a b = by_ring (w ∷ a ∷ b ∷ []) (search quotes depth 60 fits 20000) refl

    joined : (a b c e f g : ℤ) → a ≡ b → c ≡ e → f ≡ g → a +ℤ c +ℤ f ≡ b +ℤ e +ℤ g
    joined a b c e f g h i j = rw (h, i, j) refl
