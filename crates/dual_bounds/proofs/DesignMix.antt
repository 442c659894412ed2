-- A design's states, rows and costs at a mixture: of two states by a and b of a + b, with the plans u over q and v over r.
use Rattle.std.proofs.Common.{◌≡◌, ℕ, zero, suc, ◌+◌, ◌-◌, ◌*◌, ◌/◌, ◌%◌, ◌^◌, ◌<◌, Bool, true, false, [], ◌∷◌, ℤ, pos, ◌+ℤ◌, ◌-ℤ◌, ◌*ℤ◌, ◌≤ℤ◌, neg_ℤ, if◌then◌else◌, arith, refl, ap, ◌∙◌}
use Rattle.std.specs.Prelude.{nat_lt}
use Rattle.std.proofs.lemmas.Int.{ints}
use Rattle.integer_algebra.specs.Sums.{total, dot, image, square}
use Rattle.integer_algebra.proofs.OrderLaws.{add-le-add_z, add_nonneg_z, le_by, mul_nonneg_z, square_nonneg_z, mul-le-mul_left_z}
use Rattle.integer_algebra.proofs.SumLaws.{total_nonneg}
use Rattle.integer_algebra.proofs.VectorLaws.{image_mix, image_same}
use Rattle.integer_algebra.proofs.Quoting.{by_ring, quotes}
use Rattle.qp_model.specs.problem.Design.{Design, CostRow, LimitRow}
use Rattle.qp_model.specs.problem.Sound.{IsSound}
use Rattle.qp_model.specs.problem.Trajectory.{trajectory, lift}
use Rattle.qp_model.specs.problem.Residual.{residual, stage_residual, final_residual, slack}
use Rattle.qp_model.specs.problem.Cost.{cost, cost_term}

-- two states and plans, and their mixture
pub record Mixture : Type 0 where
  pub d : Design
  pub a : ℤ
  pub b : ℤ
  pub q : ℤ
  pub r : ℤ
  pub x : ℕ → ℤ
  pub y : ℕ → ℤ
  pub z : ℕ → ℤ
  pub u : ℕ → ℤ
  pub v : ℕ → ℤ
  pub between : (j : ℕ) → j < d.states → (a +ℤ b) *ℤ z j ≡ a *ℤ x j +ℤ b *ℤ y j

-- the mixture's denominator and plan
abbrev pub over : Mixture → ℤ
over m = (m.a +ℤ m.b) *ℤ (m.q *ℤ m.r)

abbrev pub plan : Mixture → ℕ → ℤ
plan m j = m.a *ℤ m.r *ℤ m.u j +ℤ m.b *ℤ m.q *ℤ m.v j

-- e at the mixture, f at the first and g at the second
pub record Mixes (m : Mixture) (e f g : ℤ) : Type 0 where
  pub is : e ≡ m.a *ℤ m.r *ℤ f +ℤ m.b *ℤ m.q *ℤ g

-- ---- states
image_mixed : (m : Mixture) (n : ℕ) (k : ℕ → ℕ → ℤ) (e f g : ℕ → ℤ) (i : ℕ) → ((j : ℕ) → j < n → Mixes m (e j) (f j) (g j)) → Mixes m (image n k e i) (image n k f i) (image n k g i)
image_mixed m n k e f g i h = record { is = image_same n k e (λ j. m.a *ℤ m.r *ℤ f j +ℤ m.b *ℤ m.q *ℤ g j) i (λ j l. (h j l).is) ∙ image_mix n k (m.a *ℤ m.r) (m.b *ℤ m.q) f g i }

dot_mixed : (m : Mixture) (n : ℕ) (k e f g : ℕ → ℤ) → ((j : ℕ) → j < n → Mixes m (e j) (f j) (g j)) → Mixes m (dot n k e) (dot n k f) (dot n k g)
dot_mixed m n k e f g h = image_mixed m n (λ i. k) e f g 0 h

plan_mixed : (m : Mixture) (j : ℕ) → Mixes m (plan m j) (m.u j) (m.v j)
plan_mixed m j = record { is = refl }

scaled_mixed : (m : Mixture) (c e f g : ℤ) → Mixes m e f g → Mixes m (c *ℤ e) (c *ℤ f) (c *ℤ g)
scaled_mixed m c e f g h = record { is = rw h.is (by_ring (m.a ∷ m.b ∷ m.q ∷ m.r ∷ c ∷ f ∷ g ∷ []) (search quotes depth 60 fits 20000) refl) }

added_mixed : (m : Mixture) (e f g s t w : ℤ) → Mixes m e f g → Mixes m s t w → Mixes m (e +ℤ s) (f +ℤ t) (g +ℤ w)
added_mixed m e f g s t w h k = record { is = rw (h.is, k.is) (by_ring (m.a ∷ m.b ∷ m.q ∷ m.r ∷ f ∷ g ∷ t ∷ w ∷ []) (search quotes depth 60 fits 20000) refl) }

less_mixed : (m : Mixture) (e f g s t w : ℤ) → Mixes m e f g → Mixes m s t w → Mixes m (e -ℤ s) (f -ℤ t) (g -ℤ w)
less_mixed m e f g s t w h k = record { is = rw (h.is, k.is) (by_ring (m.a ∷ m.b ∷ m.q ∷ m.r ∷ f ∷ g ∷ t ∷ w ∷ []) (search quotes depth 60 fits 20000) refl) }

-- what is a number times the denominator
constant_mixed : (m : Mixture) (c s t : ℤ) → Mixes m (c *ℤ over m *ℤ s *ℤ t) (c *ℤ m.q *ℤ s *ℤ t) (c *ℤ m.r *ℤ s *ℤ t)
constant_mixed m c s t = record { is = by_ring (m.a ∷ m.b ∷ m.q ∷ m.r ∷ c ∷ s ∷ t ∷ []) (search quotes depth 60 fits 20000) refl }

state_mixed : (m : Mixture) (i : ℕ) → i < m.d.states → Mixes m (over m *ℤ m.z i) (m.q *ℤ m.x i) (m.r *ℤ m.y i)
state_mixed m i l = record { is = apart (m.z i) ∙ ap (λ (n : ℤ). m.q *ℤ m.r *ℤ n) (m.between i l) ∙ by_ring (m.a ∷ m.b ∷ m.q ∷ m.r ∷ m.x i ∷ m.y i ∷ []) (search quotes depth 60 fits 20000) refl }
  where
    apart : (z : ℤ) → (m.a +ℤ m.b) *ℤ (m.q *ℤ m.r) *ℤ z ≡ m.q *ℤ m.r *ℤ ((m.a +ℤ m.b) *ℤ z)
    apart z = by_ring (m.a ∷ m.b ∷ m.q ∷ m.r ∷ z ∷ []) (search quotes depth 60 fits 20000) refl

trajectory_mixed : (m : Mixture) (k i : ℕ) → i < m.d.states →
    Mixes m (trajectory m.d (over m) m.z (plan m) k i) (trajectory m.d m.q m.x m.u k i) (trajectory m.d m.r m.y m.v k i)
trajectory_mixed m zero i l = state_mixed m i l
trajectory_mixed m (suc k) i l = added_mixed m _ _ _ _ _ _
    (image_mixed m m.d.states m.d.plant_a (trajectory m.d (over m) m.z (plan m) k) (trajectory m.d m.q m.x m.u k) (trajectory m.d m.r m.y m.v k) i (λ j o. trajectory_mixed m k j o))
    (scaled_mixed m (pos (2 ^ m.d.grid * m.d.plant_denominator ^ k)) _ _ _
    (image_mixed m m.d.inputs m.d.plant_b (λ e. plan m (k * m.d.inputs + e)) (λ e. m.u (k * m.d.inputs + e)) (λ e. m.v (k * m.d.inputs + e)) i (λ j o. plan_mixed m (k * m.d.inputs + j))))

-- ---- rows
stage_mixed : (m : Mixture) (k : ℕ) (w : LimitRow) →
    Mixes m (stage_residual m.d (over m) m.z (plan m) k w) (stage_residual m.d m.q m.x m.u k w) (stage_residual m.d m.r m.y m.v k w)
stage_mixed m k w = scaled_mixed m (lift m.d k) _ _ _ (less_mixed m _ _ _ _ _ _
    (added_mixed m _ _ _ _ _ _
    (dot_mixed m m.d.states w.of_state (trajectory m.d (over m) m.z (plan m) k) (trajectory m.d m.q m.x m.u k) (trajectory m.d m.r m.y m.v k) (λ j o. trajectory_mixed m k j o))
    (scaled_mixed m (pos (2 ^ m.d.grid * m.d.plant_denominator ^ k)) _ _ _
    (dot_mixed m m.d.inputs w.of_input (λ e. plan m (k * m.d.inputs + e)) (λ e. m.u (k * m.d.inputs + e)) (λ e. m.v (k * m.d.inputs + e)) (λ j o. plan_mixed m (k * m.d.inputs + j)))))
    (constant_mixed m (pos (2 ^ m.d.grid)) (pos (m.d.plant_denominator ^ k)) w.bound))

final_mixed : (m : Mixture) (w : LimitRow) →
    Mixes m (final_residual m.d (over m) m.z (plan m) w) (final_residual m.d m.q m.x m.u w) (final_residual m.d m.r m.y m.v w)
final_mixed m w = less_mixed m _ _ _ _ _ _
    (dot_mixed m m.d.states w.of_state (trajectory m.d (over m) m.z (plan m) m.d.stages) (trajectory m.d m.q m.x m.u m.d.stages) (trajectory m.d m.r m.y m.v m.d.stages)
    (λ j o. trajectory_mixed m m.d.stages j o))
    (constant_mixed m (pos (2 ^ m.d.grid)) (pos (m.d.plant_denominator ^ m.d.stages)) w.bound)

either_mixed : (m : Mixture) (t : Bool) (e f g s h k : ℤ) → Mixes m e f g → Mixes m s h k → Mixes m (if t then e else s) (if t then f else h) (if t then g else k)
either_mixed m true e f g s h k p n = p
either_mixed m false e f g s h k p n = n

pub residual_mixed : (m : Mixture) (i : ℕ) → Mixes m (residual m.d (over m) m.z (plan m) i) (residual m.d m.q m.x m.u i) (residual m.d m.r m.y m.v i)
residual_mixed m i = either_mixed m (nat_lt i (m.d.stages * m.d.stage_limits)) _ _ _ _ _ _
    (stage_mixed m (i / m.d.stage_limits) (m.d.stage_limit (i % m.d.stage_limits)))
    (final_mixed m (m.d.final_limit (i - m.d.stages * m.d.stage_limits)))

pub slack_mixed : (m : Mixture) (i : ℕ) → Mixes m (slack m.d (over m) m.z (plan m) i) (slack m.d m.q m.x m.u i) (slack m.d m.r m.y m.v i)
slack_mixed m i = negated _ _ _ (residual_mixed m i)
  where
    negated : (e f g : ℤ) → Mixes m e f g → Mixes m (neg_ℤ e) (neg_ℤ f) (neg_ℤ g)
    negated e f g h = record { is = rw h.is (by_ring (m.a ∷ m.b ∷ m.q ∷ m.r ∷ f ∷ g ∷ []) (search quotes depth 60 fits 20000) refl) }

-- ---- costs
-- e at the mixture is at most what f at the first and g at the second give
pub record IsBelow (m : Mixture) (e f g : ℤ) : Type 0 where
  pub is : e ≤ℤ ((m.a +ℤ m.b) *ℤ (m.a *ℤ square m.r) *ℤ f +ℤ (m.a +ℤ m.b) *ℤ (m.b *ℤ square m.q) *ℤ g)

square_mix : (a b s t : ℤ) → pos 0 ≤ℤ a → pos 0 ≤ℤ b → square (a *ℤ s +ℤ b *ℤ t) ≤ℤ ((a +ℤ b) *ℤ (a *ℤ square s +ℤ b *ℤ square t))
square_mix a b s t h k = le_by (mul_nonneg_z (a *ℤ b) (square (s -ℤ t)) (mul_nonneg_z a b h k) (square_nonneg_z (s -ℤ t)))
    (by_ring (a ∷ b ∷ s ∷ t ∷ []) (search quotes depth 60 fits 20000) refl)

square_below : (m : Mixture) (w e f g : ℤ) → pos 0 ≤ℤ m.a → pos 0 ≤ℤ m.b → pos 0 ≤ℤ w → Mixes m e f g → IsBelow m (w *ℤ square e) (w *ℤ square f) (w *ℤ square g)
square_below m w e f g pa pb pw h = record {
  is = rw h.is (le_by (mul-le-mul_left_z w pw (square_mix m.a m.b (m.r *ℤ f) (m.q *ℤ g) pa pb))
      (by_ring (m.a ∷ m.b ∷ m.q ∷ m.r ∷ w ∷ f ∷ g ∷ []) (search quotes depth 60 fits 20000) refl));
}

added_below : (m : Mixture) (e f g s t w : ℤ) → IsBelow m e f g → IsBelow m s t w → IsBelow m (e +ℤ s) (f +ℤ t) (g +ℤ w)
added_below m e f g s t w h k = record {
  is = le_by (add-le-add_z h.is k.is)
      (by_ring (m.a ∷ m.b ∷ m.q ∷ m.r ∷ e ∷ f ∷ g ∷ s ∷ t ∷ w ∷ []) (search quotes depth 60 fits 20000) refl);
}

total_below : (m : Mixture) (n : ℕ) (e f g : ℕ → ℤ) → ((i : ℕ) → i < n → IsBelow m (e i) (f i) (g i)) → IsBelow m (total n e) (total n f) (total n g)
total_below m zero e f g h = record { is = le_by zeros (by_ring (m.a ∷ m.b ∷ m.q ∷ m.r ∷ []) (search quotes depth 60 fits 20000) refl) }
  where
    zeros : pos 0 ≤ℤ pos 0
    zeros = omega (arith, ints)
total_below m (suc n) e f g h = added_below m _ _ _ _ _ _ (total_below m n e f g (λ i l. h i (omega arith))) (h n (omega arith))

term_below : (m : Mixture) (k : ℕ) (w : CostRow) → pos 0 ≤ℤ m.a → pos 0 ≤ℤ m.b → pos 0 ≤ℤ w.weight →
    IsBelow m (cost_term m.d (over m) m.z (plan m) k w) (cost_term m.d m.q m.x m.u k w) (cost_term m.d m.r m.y m.v k w)
term_below m k w pa pb pw = square_below m w.weight _ _ _ pa pb pw (scaled_mixed m (lift m.d k) _ _ _ (less_mixed m _ _ _ _ _ _
    (dot_mixed m m.d.states w.coefficient (trajectory m.d (over m) m.z (plan m) k) (trajectory m.d m.q m.x m.u k) (trajectory m.d m.r m.y m.v k) (λ j o. trajectory_mixed m k j o))
    (constant_mixed m (pos (2 ^ m.d.grid)) (pos (m.d.plant_denominator ^ k)) w.target)))

input_nonneg : (d : Design) (rho : ℕ) → IsSound d rho → (l : ℕ) → l < d.inputs → pos 0 ≤ℤ d.input_weight l
input_nonneg d rho s l o = let w = s.input_weight l o in omega (arith, ints, w)

pub cost_below : (m : Mixture) (rho : ℕ) → IsSound m.d rho → pos 0 ≤ℤ m.a → pos 0 ≤ℤ m.b →
    IsBelow m (cost m.d (over m) m.z (plan m)) (cost m.d m.q m.x m.u) (cost m.d m.r m.y m.v)
cost_below m rho s pa pb = added_below m _ _ _ _ _ _ (added_below m _ _ _ _ _ _
    (total_below m m.d.stages _ _ _ (λ k l. total_below m m.d.stage_costs _ _ _ (λ i o. term_below m (suc k) (m.d.stage_cost i) pa pb (s.stage_weight i o))))
    (total_below m m.d.final_costs _ _ _ (λ i o. term_below m m.d.stages (m.d.final_cost i) pa pb (s.final_weight i o))))
    (total_below m m.d.stages _ _ _ (λ k l. total_below m m.d.inputs _ _ _ (λ i o. square_below m (m.d.input_weight i) _ _ _ pa pb (input_nonneg m.d rho s i o)
    (scaled_mixed m (pos (m.d.row_denominator * 2 ^ m.d.grid * m.d.plant_denominator ^ m.d.stages)) _ _ _ (plan_mixed m (k * m.d.inputs + i))))))

square_term : (w e : ℤ) → pos 0 ≤ℤ w → pos 0 ≤ℤ (w *ℤ square e)
square_term w e h = mul_nonneg_z w (square e) h (square_nonneg_z e)

-- no plan costs less than nothing
pub cost_nonneg : (d : Design) (rho : ℕ) → IsSound d rho → (q : ℤ) (x u : ℕ → ℤ) → pos 0 ≤ℤ cost d q x u
cost_nonneg d rho s q x u = add_nonneg_z (add_nonneg_z
    (total_nonneg d.stages _ (λ k l. total_nonneg d.stage_costs _ (λ i o. square_term (d.stage_cost i).weight _ (s.stage_weight i o))))
    (total_nonneg d.final_costs _ (λ i o. square_term (d.final_cost i).weight _ (s.final_weight i o))))
    (total_nonneg d.stages _ (λ k l. total_nonneg d.inputs _ (λ i o. square_term (d.input_weight i) _ (input_nonneg d rho s i o))))
