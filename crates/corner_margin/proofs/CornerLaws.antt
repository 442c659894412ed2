-- What the enclosures show of a policy at the corners is no more than it truly shows there.
use Rattle.std.proofs.Common.{◌≡◌, inl, inr, ℕ, ◌-◌, ◌*◌, ◌%◌, ◌^◌, ◌<◌, ◌≤◌, [], ◌∷◌, ℤ, pos, ◌+ℤ◌, ◌-ℤ◌, ◌*ℤ◌, neg_ℤ, ◌≤ℤ◌, ◌<ℤ◌, unsigned_abs, lit<, arith, sym, refl}
use Rattle.std.proofs.lemmas.Int.{ints}
use Rattle.std.proofs.Math.IntN.{*ℤ_comm}
use Rattle.std.proofs.lemmas.Bool.{cases_lt, lt-ltb, le-ltb}
use Rattle.std.proofs.Math.Nat.{one-le-mul}
use Rattle.integer_algebra.specs.Bounds.{absolute, IsWithin}
use Rattle.integer_algebra.specs.Sums.{total, square}
use Rattle.integer_algebra.proofs.OrderLaws.{le_by, le_trans_z, add-le-add_z, mul-le-mul_left_z, mul-le-mul_right_z, mul_nonneg_z, square_nonneg_z, cancel-le_z}
use Rattle.integer_algebra.proofs.PowerLaws.{pow-two, pow_positive}
use Rattle.integer_algebra.proofs.SquareLaws.{square-le-bound}
use Rattle.integer_algebra.proofs.SumLaws.{total_mono, total_scale, total_scale_right}
use Rattle.integer_algebra.proofs.Quoting.{by_ring, quotes}
use Rattle.frac_scaled.specs.Enclosures.{Enclosure, Encloses, magnitude, exactly}
use Rattle.frac_scaled.proofs.EnclosureLaws.{encloses_within, enclosed_law, whole_law, common_law}
use Rattle.qp_model.specs.problem.Design.{Design, entries}
use Rattle.qp_model.specs.problem.Box.{corner}
use Rattle.qp_model.specs.problem.Sound.{IsSound}
use Rattle.qp_model.specs.problem.Cost.{cost}
use Rattle.qp_model.specs.problem.Residual.{slack}
use Rattle.qp_model.specs.problem.Policy.{Plans, IsPolicyFor, corner_denominator, corner_plan}
use Rattle.qp_model.specs.problem.Runs.{row_at, bound_at, cost_run, counted, counts}
use Rattle.qp_model.specs.form.FineForm.{counted_row}
use Rattle.qp_model.specs.bounds.FineCorners.{corner_state, corner_input, corner_limit, least_slack, corner_gap, most_row_cost, most_input_cost, enclosed_corners}
use Rattle.qp_model.specs.bounds.Margin.{corner_slack, slack_scale, corner_cost, corner_cost_scale, HasSlack, HasCost, simulated}
use Rattle.qp_model.specs.bounds.CornerClass.{FineCornersLaw}
use Rattle.qp_model.proofs.RowLaws.{remainder_inside}
use Rattle.condensed_form.proofs.DenominatorFacts.{natural}
use Rattle.scaled_run.proofs.CornerLaws as scaled
use Rattle.scaled_run.proofs.CornerLaws.{true_slack, true_cost}
use Rattle.scaled_run.proofs.Runs.{EncloseRun, brought, cost_encloses, limit_encloses}

-- ---- numbers alone
-- what is enclosed is at most the magnitude
reaches : (s p m r w : ℤ) → pos 0 ≤ℤ w → IsWithin (r *ℤ w) (s *ℤ p -ℤ m *ℤ w) → IsWithin ((absolute m +ℤ r) *ℤ w) (s *ℤ p)
reaches s p m r w h k = record {
  below = le_by (add-le-add_z k.below (mul-le-mul_right_z w h (over m))) (by_ring (s ∷ p ∷ m ∷ r ∷ w ∷ absolute m ∷ []) (search quotes depth 60 fits 20000) refl);
  above = le_by (add-le-add_z k.above (mul-le-mul_right_z w h (under m))) (by_ring (s ∷ p ∷ m ∷ r ∷ w ∷ absolute m ∷ []) (search quotes depth 60 fits 20000) refl);
}
  where
    over : (m : ℤ) → m ≤ℤ absolute m
    over m = omega (arith, ints)

    under : (m : ℤ) → neg_ℤ (absolute m) ≤ℤ m
    under m = omega (arith, ints)

-- and so are the squares
square_reaches : (e : Enclosure) (p w : ℤ) → pos 0 ≤ℤ w → Encloses e p w → (pos (2 ^ 80) *ℤ square p) ≤ℤ (square (magnitude e) *ℤ square w)
square_reaches e p w h k = squared (pos (2 ^ 40)) (pos (2 ^ 80)) p (magnitude e) refl (reaches (pos (2 ^ 40)) p e.mid e.rad w h (encloses_within k))
  where
    lower : (b x : ℤ) → neg_ℤ b ≤ℤ x → (pos 0 -ℤ b) ≤ℤ x
    lower b x h = omega (arith, ints, h)

    squared : (s t p m : ℤ) → t ≡ s *ℤ s → IsWithin (m *ℤ w) (s *ℤ p) → (t *ℤ square p) ≤ℤ (square m *ℤ square w)
    squared s t p m e k = rw e (le_by (square-le-bound (m *ℤ w) (s *ℤ p) k.below (lower (m *ℤ w) (s *ℤ p) k.above))
        (by_ring (s ∷ p ∷ m ∷ w ∷ []) (search quotes depth 60 fits 20000) refl))

-- sums of terms over two scales
bounded_total : (n : ℕ) (t w : ℤ) (f g : ℕ → ℤ) → ((i : ℕ) → i < n → (t *ℤ f i) ≤ℤ (g i *ℤ w)) → (t *ℤ total n f) ≤ℤ (total n g *ℤ w)
bounded_total n t w f g h = rw (← (total_scale n t f), ← (total_scale_right n w g)) (total_mono n (λ i. t *ℤ f i) (λ i. g i *ℤ w) h)

-- less / (l t) is at most slack / (l w); so where it is at least u / k, the slack is
from_less : (k t l w u less slack : ℤ) → pos 0 ≤ℤ k → pos 0 <ℤ t → pos 0 ≤ℤ w → (less *ℤ w) ≤ℤ (t *ℤ slack) → (u *ℤ (l *ℤ t)) ≤ℤ (k *ℤ less) →
    (u *ℤ (l *ℤ w)) ≤ℤ (k *ℤ slack)
from_less k t l w u less slack hk ht hw h m =
    cancel-le_z t (u *ℤ (l *ℤ w)) (k *ℤ slack) ht
    (le_by (add-le-add_z (mul-le-mul_right_z w hw m) (mul-le-mul_left_z k hk h)) (by_ring (k ∷ t ∷ l ∷ w ∷ u ∷ less ∷ slack ∷ []) (search quotes depth 60 fits 20000) refl))

-- more / (l t) is at least cost / (l w); so where it is at most u, the cost is
from_more : (t l w u more cost : ℤ) → pos 0 <ℤ t → pos 0 ≤ℤ w → (t *ℤ cost) ≤ℤ (more *ℤ w) → more ≤ℤ (u *ℤ (l *ℤ t)) → cost ≤ℤ (u *ℤ (l *ℤ w))
from_more t l w u more cost ht hw h m =
    cancel-le_z t cost (u *ℤ (l *ℤ w)) ht
    (le_by (add-le-add_z h (mul-le-mul_right_z w hw m)) (by_ring (t ∷ l ∷ w ∷ u ∷ more ∷ cost ∷ []) (search quotes depth 60 fits 20000) refl))

-- ---- costs of runs
-- a run's start and plan, of a state over 2^grid and a plan over n
start_of : ℕ → (ℕ → ℤ) → ℕ → ℤ
start_of n xi i = pos n *ℤ xi i

plan_of : Design → (ℕ → ℤ) → ℕ → ℤ
plan_of d u j = pos (2 ^ d.grid) *ℤ u j

-- and what both are over at the last stage
last_over : Design → ℕ → ℕ
last_over d n = n * 2 ^ d.grid * d.plant_denominator ^ d.stages

-- by how much a counted cost row misses its target
gap_at : Design → (n : ℕ) → (xi u : ℕ → ℤ) → ℕ → ℤ
gap_at d n xi u i = counted d (cost_run d (start_of n xi) (plan_of d u)) i +ℤ pos (last_over d n) *ℤ neg_ℤ (counted_row d i).target

-- what an entry of a plan costs by itself
input_cost : Design → (u : ℕ → ℤ) → ℕ → ℤ
input_cost d u j = d.input_weight (j % d.inputs) *ℤ square (pos (d.row_denominator * 2 ^ d.grid * d.plant_denominator ^ d.stages) *ℤ u j)

-- ---- weights
row_weight : (d : Design) (rho : ℕ) → IsSound d rho → (i : ℕ) → i < counts d → pos 0 ≤ℤ (counted_row d i).weight
row_weight d rho s i l = elim (cases_lt i (d.stages * d.stage_costs)) [
  | inl m ↦ rw (lt-ltb i (d.stages * d.stage_costs) m) (s.stage_weight (i % d.stage_costs) (remainder_inside i d.stages d.stage_costs m))
  | inr m ↦ rw (le-ltb i (d.stages * d.stage_costs) m) (s.final_weight (i - d.stages * d.stage_costs) (omega arith))
]

input_weight : (d : Design) (rho : ℕ) → IsSound d rho → (j : ℕ) → pos 0 ≤ℤ d.input_weight (j % d.inputs)
input_weight d rho s j = le_trans_z (low rho) (s.input_weight (j % d.inputs) (inside d.inputs s.inputs))
  where
    low : (rho : ℕ) → pos 0 ≤ℤ pos rho
    low rho = omega (arith, ints)

    inside : (m : ℕ) → 1 ≤ m → j % m < m
    inside m h = omega arith

-- ---- one corner
module _ (d : Design) (rho : ℕ) (p : Plans) (s : IsSound d rho) (h : IsPolicyFor d p) (c : ℕ) (first : 1 ≤ c) (last : c ≤ 2 ^ d.states) where
  -- what its plan is over, as a natural
  den : ℕ
  den = unsigned_abs (corner_denominator p c)

  den_some : pos 1 ≤ℤ corner_denominator p c
  den_some = (h.denominators (c - 1) (pos 0) (omega (arith, h.count))).low

  den_is : corner_denominator p c ≡ pos den
  unfolding den
  den_is = natural (corner_denominator p c) den_some

  den_positive : 1 ≤ den
  den_positive = back den (rw den_is at den_some)
    where
      back : (n : ℕ) → pos 1 ≤ℤ pos n → 1 ≤ n
      back n h = omega (arith, ints, h)

  grid_positive : 1 ≤ 2 ^ d.grid
  grid_positive = pow_positive 2 d.grid (lit< tt)

  over_positive : 1 ≤ last_over d den
  unfolding last_over
  over_positive = one-le-mul (one-le-mul den_positive grid_positive) (pow_positive d.plant_denominator d.stages s.plant_denominator)

  some : pos 0 ≤ℤ pos (last_over d den)
  some = nonnegative (last_over d den)
    where
      nonnegative : (n : ℕ) → pos 0 ≤ℤ pos n
      nonnegative n = omega (arith, ints)

  -- an entry of its plan
  own_input : (j : ℕ) → Encloses (corner_input p c j) (corner_plan p c j) (pos den)
  unfolding den
  own_input j = enclosed_law (corner_plan p c j) den den_positive

  -- its run
  runs : EncloseRun d (corner_state d c) (corner_input p c) (start_of den (corner d c)) (plan_of d (corner_plan p c)) (den * 2 ^ d.grid)
  unfolding den start_of plan_of
  runs = record {
    plant = s.plant_denominator;
    over = one-le-mul den_positive grid_positive;
    state = λ i l. brought (corner_state d c i) (corner d c i) (2 ^ d.grid) den _ refl grid_positive (one-le-mul den_positive grid_positive) (enclosed_law (corner d c i) (2 ^ d.grid) grid_positive);
    plan = λ j l. brought (corner_input p c j) (corner_plan p c j) den (2 ^ d.grid) _ (turn den (2 ^ d.grid)) den_positive (one-le-mul den_positive grid_positive) (own_input j);
  }
    where
      turn : (a b : ℕ) → a * b ≡ b * a
      turn a b = omega arith

  -- ---- the slacks
  slack_is : (i : ℕ) → corner_slack d p c i ≡ pos (last_over d den) *ℤ bound_at d i -ℤ row_at d (start_of den (corner d c)) (plan_of d (corner_plan p c)) i
  unfolding den start_of plan_of last_over
  slack_is i = true_slack d p c (unsigned_abs (corner_denominator p c)) s.plant_denominator den_is den_positive i

  slack_less : (i : ℕ) → (least_slack d p c i *ℤ pos (last_over d den)) ≤ℤ (pos (2 ^ 40) *ℤ corner_slack d p c i)
  unfolding last_over
  slack_less i = rw (slack_is i) (turned (pos (2 ^ 40)) (bound_at d i) (corner_limit d p c i).mid (corner_limit d p c i).rad (pos (last_over d den)) _
      (encloses_within (limit_encloses d (corner_state d c) (corner_input p c) (start_of den (corner d c)) (plan_of d (corner_plan p c)) (den * 2 ^ d.grid) runs i)).below)
    where
      turned : (t b m r w row : ℤ) → (t *ℤ row -ℤ m *ℤ w) ≤ℤ (r *ℤ w) → ((t *ℤ b -ℤ m -ℤ r) *ℤ w) ≤ℤ (t *ℤ (w *ℤ b -ℤ row))
      turned t b m r w row h = le_by h (by_ring (t ∷ b ∷ m ∷ r ∷ w ∷ row ∷ []) (search quotes depth 60 fits 20000) refl)

  slack_over : slack_scale d p c ≡ pos d.limit_denominator *ℤ pos (last_over d den)
  unfolding den last_over
  slack_over = sym (scaled.slack_over d p c (unsigned_abs (corner_denominator p c)) s.plant_denominator den_is den_positive)

  -- ---- the costs
  -- the rows
  row_less : (i : ℕ) → i < counts d →
      (pos (2 ^ 80) *ℤ ((counted_row d i).weight *ℤ square (gap_at d den (corner d c) (corner_plan p c) i))) ≤ℤ
      ((counted_row d i).weight *ℤ square (magnitude (corner_gap d p c i)) *ℤ square (pos (last_over d den)))
  unfolding gap_at last_over
  row_less i l = weighed (pos (2 ^ 80)) (counted_row d i).weight _ _ _ (row_weight d rho s i l)
      (square_reaches (corner_gap d p c i) _ (pos (last_over d den)) some
      (common_law _ (exactly (neg_ℤ (counted_row d i).target)) _ (pos (last_over d den) *ℤ neg_ℤ (counted_row d i).target) (pos (last_over d den))
      (cost_encloses d (corner_state d c) (corner_input p c) (start_of den (corner d c)) (plan_of d (corner_plan p c)) (den * 2 ^ d.grid) runs i)
      (rw (*ℤ_comm (pos (last_over d den)) (neg_ℤ (counted_row d i).target)) (whole_law (neg_ℤ (counted_row d i).target) (pos (last_over d den))))))
    where
      weighed : (t k x m w : ℤ) → pos 0 ≤ℤ k → (t *ℤ x) ≤ℤ (m *ℤ w) → (t *ℤ (k *ℤ x)) ≤ℤ (k *ℤ m *ℤ w)
      weighed t k x m w h l = le_by (mul-le-mul_left_z k h l) (by_ring (t ∷ k ∷ x ∷ m ∷ w ∷ []) (search quotes depth 60 fits 20000) refl)

  row_costs : ℤ
  row_costs = total (counts d) (λ i. (counted_row d i).weight *ℤ square (gap_at d den (corner d c) (corner_plan p c) i))

  rows_less : (pos (2 ^ 80) *ℤ row_costs) ≤ℤ (most_row_cost d p c *ℤ square (pos (last_over d den)))
  unfolding row_costs
  rows_less = bounded_total (counts d) (pos (2 ^ 80)) (square (pos (last_over d den))) _ _ (λ i l. row_less i l)

  -- the inputs
  input_encloses : (j : ℕ) → Encloses (corner_input p c j) (pos (2 ^ d.grid * d.plant_denominator ^ d.stages) *ℤ corner_plan p c j) (pos (last_over d den))
  unfolding last_over
  input_encloses j = brought (corner_input p c j) (corner_plan p c j) den (2 ^ d.grid * d.plant_denominator ^ d.stages) _ (turn den (2 ^ d.grid) (d.plant_denominator ^ d.stages)) den_positive
      over_positive (own_input j)
    where
      turn : (q g a : ℕ) → q * g * a ≡ g * a * q
      turn q g a = omega arith

  input_less : (j : ℕ) → (pos (2 ^ 80) *ℤ input_cost d (corner_plan p c) j) ≤ℤ
      (d.input_weight (j % d.inputs) *ℤ pos (d.row_denominator ^ 2) *ℤ square (magnitude (corner_input p c j)) *ℤ square (pos (last_over d den)))
  unfolding input_cost
  input_less j = rw (pow-two d.row_denominator) (weighed (pos (2 ^ 80)) (d.input_weight (j % d.inputs)) d.row_denominator (2 ^ d.grid) (d.plant_denominator ^ d.stages)
      (corner_plan p c j) (square (magnitude (corner_input p c j))) (square (pos (last_over d den))) (input_weight d rho s j)
      (square_reaches (corner_input p c j) _ (pos (last_over d den)) some (input_encloses j)))
    where
      plain : (t k r g u m w : ℤ) → pos 0 ≤ℤ k → (t *ℤ square (g *ℤ u)) ≤ℤ (m *ℤ w) → (t *ℤ (k *ℤ square (r *ℤ g *ℤ u))) ≤ℤ (k *ℤ (r *ℤ r) *ℤ m *ℤ w)
      plain t k r g u m w h l = le_by (mul-le-mul_left_z (k *ℤ (r *ℤ r)) (mul_nonneg_z k (r *ℤ r) h (square_nonneg_z r)) l)
          (by_ring (t ∷ k ∷ r ∷ g ∷ u ∷ m ∷ w ∷ []) (search quotes depth 60 fits 20000) refl)

      turn : (r g a : ℕ) → r * g * a ≡ r * (g * a)
      turn r g a = omega arith

      weighed : (t k : ℤ) (r g a : ℕ) (u m w : ℤ) → pos 0 ≤ℤ k → (t *ℤ square (pos (g * a) *ℤ u)) ≤ℤ (m *ℤ w) →
          (t *ℤ (k *ℤ square (pos (r * g * a) *ℤ u))) ≤ℤ (k *ℤ pos (r * r) *ℤ m *ℤ w)
      weighed t k r g a u m w h l = rw (turn r g a) (plain t k (pos r) (pos (g * a)) u m w h l)

  inputs_less : (pos (2 ^ 80) *ℤ total (entries d) (input_cost d (corner_plan p c))) ≤ℤ (most_input_cost d p c *ℤ square (pos (last_over d den)))
  inputs_less = bounded_total (entries d) (pos (2 ^ 80)) (square (pos (last_over d den))) _ _ (λ j l. input_less j)

  -- both
  cost_is : corner_cost d p c ≡ row_costs +ℤ total (entries d) (input_cost d (corner_plan p c))
  unfolding row_costs input_cost gap_at den start_of plan_of last_over
  cost_is = true_cost d p c (unsigned_abs (corner_denominator p c)) s.plant_denominator den_is den_positive

  cost_less : (pos (2 ^ 80) *ℤ corner_cost d p c) ≤ℤ ((most_row_cost d p c +ℤ most_input_cost d p c) *ℤ square (pos (last_over d den)))
  cost_less = rw cost_is (together (pos (2 ^ 80)) row_costs (total (entries d) (input_cost d (corner_plan p c))) _ _ (square (pos (last_over d den))) rows_less inputs_less)
    where
      together : (t a b m n w : ℤ) → (t *ℤ a) ≤ℤ (m *ℤ w) → (t *ℤ b) ≤ℤ (n *ℤ w) → (t *ℤ (a +ℤ b)) ≤ℤ ((m +ℤ n) *ℤ w)
      together t a b m n w h k = le_by (add-le-add_z h k) (by_ring (t ∷ a ∷ b ∷ m ∷ n ∷ w ∷ []) (search quotes depth 60 fits 20000) refl)

  cost_over : corner_cost_scale d p c ≡ pos (d.cost_denominator * d.row_denominator ^ 2) *ℤ square (pos (last_over d den))
  unfolding den last_over
  cost_over = sym (scaled.cost_over d p c (unsigned_abs (corner_denominator p c)) s.plant_denominator den_is den_positive)

  -- ---- what is shown is no more than the truth
  shown_slack : (units : ℤ) (i : ℕ) → HasSlack (enclosed_corners d p) units c i → HasSlack (simulated d p) units c i
  shown_slack units i m = rw slack_over (from_less (pos (2 ^ 16)) (pos (2 ^ 40)) (pos d.limit_denominator) (pos (last_over d den)) units (least_slack d p c i) (corner_slack d p c i)
      (omega (arith, ints)) (omega (arith, ints)) some (slack_less i) m)

  shown_cost : (most : ℤ) → HasCost (enclosed_corners d p) most c → HasCost (simulated d p) most c
  shown_cost most m = rw cost_over (from_more (pos (2 ^ 80)) (pos (d.cost_denominator * d.row_denominator ^ 2)) (square (pos (last_over d den))) most _ (corner_cost d p c)
      (omega (arith, ints)) (square_nonneg_z (pos (last_over d den))) cost_less m)

-- ---- all corners
pub fine_corners_law : FineCornersLaw
fine_corners_law d rho p s h = record {
  slacks = λ units c i first last l m. shown_slack d rho p s h c first last units i m;
  costs = λ most c first last m. shown_cost d rho p s h c first last most m;
}
