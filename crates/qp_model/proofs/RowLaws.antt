-- Limit rows along runs.
use Rattle.std.proofs.Common.{◌≡◌, inl, inr, ℕ, zero, suc, ◌+◌, ◌-◌, ◌*◌, ◌/◌, ◌%◌, ◌^◌, ◌<◌, ◌≤◌, [], ◌∷◌, ℤ, pos, ◌+ℤ◌, ◌-ℤ◌, ◌*ℤ◌, Bool, true, false, nat_eq, if◌then◌else◌, unsigned_abs, arith, ap, sym, ◌∙◌, refl}
use Rattle.std.proofs.lemmas.Int.{unsigned_abs-mul}
use Rattle.std.proofs.lemmas.Bool.{cases_lt, lt-ltb, le-ltb}
use Rattle.std.proofs.lemmas.Nat.{div_below}
use Rattle.std.proofs.Math.Nat.{mul-le-mul_left, pow-le-pow_left}
use Rattle.std.proofs.lemmas.Nat.{pow-add}
use Rattle.integer_algebra.specs.Sums.{dot, none}
use Rattle.integer_algebra.specs.Sizes.{size, product_size}
use Rattle.integer_algebra.proofs.SumLaws.{total_same}
use Rattle.integer_algebra.proofs.SizeLaws.{total_size}
use Rattle.integer_algebra.proofs.VectorLaws.{dot_same, dot_scale_right, dot_none}
use Rattle.integer_algebra.proofs.Quoting.{by_ring, quotes}
use Rattle.qp_model.specs.problem.Design.{Design, LimitRow, entries}
use Rattle.qp_model.specs.problem.Trajectory.{lift}
use Rattle.qp_model.specs.problem.Residual.{stage_residual, final_residual}
use Rattle.qp_model.specs.form.Condensing.{condensed_of}
use Rattle.qp_model.proofs.CostLaws.{condensing}
use Rattle.qp_model.specs.problem.Runs.{run, unit, limit_at, row_at, bound_at, BoundsGrowth, ResponseLaw, ResidualLaw, RowBoundLaw}
use Rattle.qp_model.proofs.RunLaws.{trajectory_run, power_run, response_run, unit_row, run_within, row_within, product_within, plan_inside, abs-mixed_le}

-- ---- the last power of the denominator
pub lift_power : (a n k : ℕ) → k ≤ n → a ^ (n - k) * a ^ k ≡ a ^ n
lift_power a n k h = let e : n - k + k ≡ n = omega arith in sym (pow-add a (n - k) k) ∙ ap (λ m. a ^ m) e

pub stage_inside : (i stages limits : ℕ) → i < stages * limits → i / limits < stages
stage_inside i stages zero l = absurd (omega arith)
stage_inside i stages (suc n) l = div_below i (suc n) stages (omega arith) l

pub remainder_inside : (i stages limits : ℕ) → i < stages * limits → i % limits < limits
remainder_inside i stages zero l = absurd (omega arith)
remainder_inside i stages (suc n) l = omega arith

-- ---- residuals
stage_row : (d : Design) (q : ℤ) (xi u : ℕ → ℤ) (k : ℕ) (r : LimitRow) → k ≤ d.stages →
    stage_residual d q xi u k r ≡ limit_at d (λ j. q *ℤ xi j) (λ j. pos (2 ^ d.grid) *ℤ u j) k r -ℤ
    pos (2 ^ d.grid) *ℤ q *ℤ (pos (d.plant_denominator ^ d.stages) *ℤ r.bound)
stage_row d q xi u k r l =
    next (2 ^ d.grid) q (d.plant_denominator ^ k) (d.plant_denominator ^ (d.stages - k)) (d.plant_denominator ^ d.stages) r.bound _ _ _ _
    (dot_same d.states r.of_state _ _ (λ h o. trajectory_run d q xi u k h))
    (dot_scale_right d.inputs (pos (2 ^ d.grid)) r.of_input (λ n. u (k * d.inputs + n)))
    (lift_power d.plant_denominator d.stages k l)
  where
    plain : (g q a m b s s' t t' : ℤ) → s ≡ s' → t' ≡ g *ℤ t →
        m *ℤ (s +ℤ g *ℤ a *ℤ t -ℤ g *ℤ q *ℤ a *ℤ b) ≡ m *ℤ (s' +ℤ a *ℤ t') -ℤ g *ℤ q *ℤ (m *ℤ a *ℤ b)
    plain g q a m b s s' t t' e f = rw (e, f) (by_ring (g ∷ q ∷ a ∷ m ∷ b ∷ s' ∷ t ∷ []) (search quotes depth 60 fits 20000) refl)

    next : (g : ℕ) (q : ℤ) (a m n : ℕ) (b s s' t t' : ℤ) → s ≡ s' → t' ≡ pos g *ℤ t → m * a ≡ n →
        pos m *ℤ (s +ℤ pos (g * a) *ℤ t -ℤ pos g *ℤ q *ℤ pos a *ℤ b) ≡ pos m *ℤ (s' +ℤ pos a *ℤ t') -ℤ pos g *ℤ q *ℤ (pos n *ℤ b)
    next g q a m n b s s' t t' e f h = rw (← h) (plain (pos g) q (pos a) (pos m) b s s' t t' e f)

final_row : (d : Design) (q : ℤ) (xi u : ℕ → ℤ) (r : LimitRow) →
    final_residual d q xi u r ≡
    dot d.states r.of_state (run d (λ j. q *ℤ xi j) (λ j. pos (2 ^ d.grid) *ℤ u j) d.stages) -ℤ
    pos (2 ^ d.grid) *ℤ q *ℤ (pos (d.plant_denominator ^ d.stages) *ℤ r.bound)
final_row d q xi u r =
    plain (pos (2 ^ d.grid) *ℤ q) (pos (d.plant_denominator ^ d.stages)) r.bound _ _ (dot_same d.states r.of_state _ _ (λ h o. trajectory_run d q xi u d.stages h))
  where
    plain : (g n b s s' : ℤ) → s ≡ s' → s -ℤ g *ℤ n *ℤ b ≡ s' -ℤ g *ℤ (n *ℤ b)
    plain g n b s s' e = rw e (by_ring (g ∷ n ∷ b ∷ s' ∷ []) (search quotes depth 60 fits 20000) refl)

pub residual_law : ResidualLaw
residual_law d q xi u i = elim (cases_lt i (d.stages * d.stage_limits)) [
  | inl l ↦ rw (lt-ltb i (d.stages * d.stage_limits) l) (stage_row d q xi u (i / d.stage_limits) (d.stage_limit (i % d.stage_limits)) (omega (arith, stage_inside i d.stages d.stage_limits l)))
  | inr l ↦ rw (le-ltb i (d.stages * d.stage_limits) l) (final_row d q xi u (d.final_limit (i - d.stages * d.stage_limits)))
]

-- ---- responses
pub plan_number : (d : Design) (i j : ℕ) → 1 ≤ d.inputs → (condensed_of d).by_plan i j ≡ row_at d none (unit j) i
plan_number d i j h = elim (cases_lt i (d.stages * d.stage_limits)) [
  | inl l ↦ rw (lt-ltb i (d.stages * d.stage_limits) l) (next (nat_eq (j / d.inputs) (i / d.stage_limits)) (lift d (i / d.stage_limits))
      (pos (d.plant_denominator ^ (i / d.stage_limits))) _ _ _ _
      (dot_same d.states (d.stage_limit (i % d.stage_limits)).of_state _ _ (λ n o. response_run d (i / d.stage_limits) n j h))
      (unit_row (d.stage_limit (i % d.stage_limits)).of_input d.inputs (i / d.stage_limits) j h))
  | inr l ↦ rw (le-ltb i (d.stages * d.stage_limits) l)
      (dot_same d.states (d.final_limit (i - d.stages * d.stage_limits)).of_state _ _ (λ n o. response_run d d.stages n j h))
]
  where
    next : (b : Bool) (m a s t x c : ℤ) → s ≡ t → c ≡ (if b then x else pos 0) →
        m *ℤ (s +ℤ (if b then a *ℤ x else pos 0)) ≡ m *ℤ (t +ℤ a *ℤ c)
    next true m a s t x c e f = rw (e, f) refl
    next false m a s t x c e f = rw (e, f) (by_ring (m ∷ a ∷ t ∷ []) (search quotes depth 60 fits 20000) refl)

pub state_number : (d : Design) (i j : ℕ) → (condensed_of d).by_state i j ≡ row_at d (unit j) none i
state_number d i j = elim (cases_lt i (d.stages * d.stage_limits)) [
  | inl l ↦ rw (lt-ltb i (d.stages * d.stage_limits) l) (next (lift d (i / d.stage_limits)) (pos (d.plant_denominator ^ (i / d.stage_limits))) _ _ _
      (dot_same d.states (d.stage_limit (i % d.stage_limits)).of_state _ _ (λ n o. power_run d (i / d.stage_limits) n j))
      (dot_none d.inputs (d.stage_limit (i % d.stage_limits)).of_input))
  | inr l ↦ rw (le-ltb i (d.stages * d.stage_limits) l)
      (dot_same d.states (d.final_limit (i - d.stages * d.stage_limits)).of_state _ _ (λ n o. power_run d d.stages n j))
]
  where
    next : (m a s t c : ℤ) → s ≡ t → c ≡ pos 0 → m *ℤ s ≡ m *ℤ (t +ℤ a *ℤ c)
    next m a s t c e f = rw (e, f) (by_ring (m ∷ a ∷ t ∷ []) (search quotes depth 60 fits 20000) refl)

pub bound_number : (d : Design) (i : ℕ) → (condensed_of d).bound i ≡ pos (d.plant_denominator ^ d.stages) *ℤ bound_at d i
bound_number d i = elim (cases_lt i (d.stages * d.stage_limits)) [
  | inl l ↦ rw (lt-ltb i (d.stages * d.stage_limits) l) (next _ _ _ (d.stage_limit (i % d.stage_limits)).bound
      (lift_power d.plant_denominator d.stages (i / d.stage_limits) (omega (arith, stage_inside i d.stages d.stage_limits l))))
  | inr l ↦ rw (le-ltb i (d.stages * d.stage_limits) l) refl
]
  where
    plain : (m a b : ℤ) → m *ℤ (a *ℤ b) ≡ m *ℤ a *ℤ b
    plain m a b = by_ring (m ∷ a ∷ b ∷ []) (search quotes depth 60 fits 20000) refl

    next : (m a n : ℕ) (b : ℤ) → m * a ≡ n → pos m *ℤ (pos a *ℤ b) ≡ pos n *ℤ b
    next m a n b h = rw (← h) (plain (pos m) (pos a) b)

pub response_law : ResponseLaw
response_law d g e bound h a q xi u i l =
    rw (
      total_same (entries d) _ _ (λ j o. ap (λ (z : ℤ). z *ℤ u j) (a.plan i j l o ∙ sym (plan_number d i j h))),
      total_same d.states _ _ (λ j o. ap (λ (z : ℤ). z *ℤ xi j) (a.state i j l o ∙ sym (state_number d i j))),
      a.bound i l ∙ sym (bound_number d i),
    ) ((condensing d h).rows q xi u i l)

-- ---- bounds
-- a row's sums at a stage, times what lifts them, are within the last stage's bound
pub row_room : (d : Design) (alpha z width : ℕ) (x v : ℕ → ℤ) (a b : ℕ → ℤ) → 1 ≤ d.plant_denominator → BoundsGrowth d alpha →
    size d.states a + size d.inputs b ≤ width →
    ((i : ℕ) → i < d.states → unsigned_abs (x i) ≤ z) → ((j : ℕ) → j < entries d → unsigned_abs (v j) ≤ z) →
    (k : ℕ) → k < d.stages →
    d.plant_denominator ^ (d.stages - k) * (product_size d.states a (run d x v k) +
    d.plant_denominator ^ k * product_size d.inputs b (λ l. v (k * d.inputs + l))) ≤ width * (z * alpha ^ d.stages)
row_room d alpha z width x v a b one t s hx hv k l =
    numbers _ _ _ width z (alpha ^ k) _ (pow-le-pow_left t.denominator (d.stages - k))
    (row_within d.states d.inputs a b (run d x v k) (λ n. v (k * d.inputs + n)) (d.plant_denominator ^ k) z (z * alpha ^ k) width s
    (λ i o. run_within d alpha z x v t hx hv k i (omega arith) o) (λ n o. hv (k * d.inputs + n) (plan_inside k d.stages d.inputs n l o))
    (scaled z (pow-le-pow_left t.denominator k)))
    (lift_power alpha d.stages k (omega arith))
  where
    scaled : (z : ℕ) {a b : ℕ} → a ≤ b → a * z ≤ z * b
    scaled z {a} {b} h = omega (arith, mul-le-mul_left z h)

    numbers : (c b m w z a n : ℕ) → c ≤ b → m ≤ w * (z * a) → b * a ≡ n → c * m ≤ w * (z * n)
    numbers c b m w z a n h k e = rw (← e) (omega (arith, mul-le-mul_left m h, mul-le-mul_left b k))

pub row_bound_law : RowBoundLaw
row_bound_law d alpha z width x v one t w hx hv i l = elim (cases_lt i (d.stages * d.stage_limits)) [
  | inl m ↦ rw (lt-ltb i (d.stages * d.stage_limits) m)
      (stage (i / d.stage_limits) (d.stage_limit (i % d.stage_limits)) (stage_inside i d.stages d.stage_limits m)
      (w.stage (i % d.stage_limits) (remainder_inside i d.stages d.stage_limits m)))
  | inr m ↦ rw (le-ltb i (d.stages * d.stage_limits) m)
      (final (d.final_limit (i - d.stages * d.stage_limits)) (w.final (i - d.stages * d.stage_limits) (omega arith)))
]
  where
    lifted : (m k : ℕ) (s t : ℤ) (es et top : ℕ) → unsigned_abs s ≤ es → unsigned_abs t ≤ et → m * (es + k * et) ≤ top →
        unsigned_abs (pos m *ℤ (s +ℤ pos k *ℤ t)) ≤ top
    lifted m k s t es et top h o e = omega (arith, unsigned_abs-mul (pos m) (s +ℤ pos k *ℤ t), mul-le-mul_left m (abs-mixed_le s t k es et h o))

    stage : (k : ℕ) (r : LimitRow) → k < d.stages → size d.states r.of_state + size d.inputs r.of_input ≤ width →
        unsigned_abs (limit_at d x v k r) ≤ width * (z * alpha ^ d.stages)
    stage k r o s = lifted (d.plant_denominator ^ (d.stages - k)) (d.plant_denominator ^ k) _ _ _ _ _
        (total_size d.states (λ i. r.of_state i *ℤ run d x v k i)) (total_size d.inputs (λ n. r.of_input n *ℤ v (k * d.inputs + n)))
        (row_room d alpha z width x v r.of_state r.of_input one t s hx hv k o)

    bounded : (x size width top m : ℕ) → x ≤ m → m ≤ size * top → size ≤ width → x ≤ width * top
    bounded x size width top m h k l = omega (arith, mul-le-mul_left top l)

    final : (r : LimitRow) → size d.states r.of_state ≤ width → unsigned_abs (dot d.states r.of_state (run d x v d.stages)) ≤ width * (z * alpha ^ d.stages)
    final r s = bounded _ _ width (z * alpha ^ d.stages) _ (total_size d.states (λ i. r.of_state i *ℤ run d x v d.stages i))
        (product_within d.states r.of_state (run d x v d.stages) (z * alpha ^ d.stages) (λ i o. run_within d alpha z x v t hx hv d.stages i (omega arith) o)) s
