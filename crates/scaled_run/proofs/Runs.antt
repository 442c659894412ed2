-- A run of the plant in enclosures encloses the run, and so do what the rows have of it.
use Rattle.std.proofs.Common.{◌≡◌, inl, inr, ℕ, zero, suc, ◌+◌, ◌-◌, ◌*◌, ◌/◌, ◌%◌, ◌^◌, ◌<◌, ◌≤◌, [], ◌∷◌, ℤ, pos, ◌+ℤ◌, ◌*ℤ◌, ◌≤ℤ◌, lit<, arith, ap, ◌∙◌, refl}
use Rattle.std.proofs.lemmas.Int.{ints}
use Rattle.std.proofs.lemmas.Bool.{cases_lt, lt-ltb, le-ltb}
use Rattle.std.proofs.Math.Nat.{one-le-mul, pow-suc, pow-zero}
use Rattle.integer_algebra.specs.Sums.{total, dot}
use Rattle.integer_algebra.proofs.RingLaws.{add_equations}
use Rattle.integer_algebra.proofs.SumLaws.{total_same}
use Rattle.integer_algebra.proofs.VectorLaws.{dot_scale_right}
use Rattle.integer_algebra.proofs.BlockLaws.{total_append}
use Rattle.integer_algebra.proofs.PowerLaws.{pow_positive}
use Rattle.integer_algebra.proofs.Quoting.{by_ring, quotes}
use Rattle.frac_scaled.specs.Enclosures.{Enclosure, Encloses, exactly}
use Rattle.frac_scaled.proofs.EnclosureLaws.{fraction_law, whole_law, common_law}
use Rattle.mat_int.specs.Enclosures.{combined}
use Rattle.mat_int.proofs.EnclosureLaws.{combined_law}
use Rattle.qp_model.specs.problem.Design.{Design, LimitRow, entries}
use Rattle.qp_model.specs.problem.Trajectory.{lift}
use Rattle.qp_model.specs.problem.Runs.{run, limit_at, row_at, cost_run, counted}
use Rattle.qp_model.specs.form.FineForm.{followed, wholes, fine_run, fine_cost, fine_final_limit, fine_stage_limit, fine_limit}
use Rattle.qp_model.proofs.RunLaws.{plan_inside}
use Rattle.qp_model.proofs.RowLaws.{lift_power, stage_inside}

-- the same fraction, written otherwise
pub enclosed_as : {e : Enclosure} (p q : ℤ) {t u : ℤ} → p ≡ t → q ≡ u → Encloses e p q → Encloses e t u
enclosed_as p q g h k = rw (← g, ← h) k

pub natural_some : (n : ℕ) → 1 ≤ n → pos 1 ≤ℤ pos n
natural_some n h = omega (arith, ints)

-- ---- one list after another
-- what holds of the enclosures of both lists holds of them all
followed_encloses : (n m : ℕ) (e f : ℕ → Enclosure) (p t : ℕ → ℤ) (q : ℤ) → ((j : ℕ) → j < n → Encloses (e j) (p j) q) → ((j : ℕ) → j < m → Encloses (f j) (t j) q) →
    (j : ℕ) → j < n + m → Encloses (followed n e f j) (followed n p t j) q
followed_encloses n m e f p t q h k j l = elim (cases_lt j n) [
  | inl o ↦ rw (lt-ltb j n o) (h j o)
  | inr o ↦ rw (le-ltb j n o) (k (j - n) (omega arith))
]

-- sums of their products
followed_total : (n m : ℕ) (a b p t : ℕ → ℤ) → total (n + m) (λ i. followed n a b i *ℤ followed n p t i) ≡ dot n a p +ℤ dot m b t
followed_total n m a b p t = total_append n m _ ∙ add_equations (total_same n _ _ (λ i l. first i l)) (total_same m _ _ (λ i l. second i))
  where
    first : (i : ℕ) → i < n → followed n a b i *ℤ followed n p t i ≡ a i *ℤ p i
    first i l = rw (lt-ltb i n l) refl

    past : (n i : ℕ) → n + i - n ≡ i
    past n i = omega arith

    second : (i : ℕ) → followed n a b (n + i) *ℤ followed n p t (n + i) ≡ b i *ℤ t i
    second i = rw (le-ltb (n + i) n (omega arith), past n i) refl

-- ---- the run
-- the state x and the plan v enclose the numerators xs and vs over q
pub record EncloseRun (d : Design) (x v : ℕ → Enclosure) (xs vs : ℕ → ℤ) (q : ℕ) : Type 0 where
  pub plant : 1 ≤ d.plant_denominator
  pub over : 1 ≤ q
  pub state : (i : ℕ) → i < d.states → Encloses (x i) (xs i) (pos q)
  pub plan : (j : ℕ) → j < entries d → Encloses (v j) (vs j) (pos q)

-- a fraction over a multiple of its denominator
pub brought : (e : Enclosure) (z : ℤ) (q m n : ℕ) → n ≡ m * q → 1 ≤ q → 1 ≤ n → Encloses e z (pos q) → Encloses e (pos m *ℤ z) (pos n)
brought e z q m n g h k w = fraction_law e z (pos q) (pos m *ℤ z) (pos n) (natural_some q h) (natural_some n k) (moved q m n g) w
  where
    plain : (q m : ℤ) → z *ℤ (m *ℤ q) ≡ m *ℤ z *ℤ q
    plain q m = by_ring (z ∷ q ∷ m ∷ []) (search quotes depth 60 fits 20000) refl

    moved : (q m n : ℕ) → n ≡ m * q → z *ℤ pos n ≡ pos m *ℤ z *ℤ pos q
    moved q m n e = rw e (plain (pos q) (pos m))

-- q times a power of the plant's denominator
over_power : (q a k : ℕ) → 1 ≤ q → 1 ≤ a → 1 ≤ q * a ^ k
over_power q a k h l = one-le-mul h (pow_positive a k l)

-- an input at a stage, over that power
input_encloses : (d : Design) (x v : ℕ → Enclosure) (xs vs : ℕ → ℤ) (q : ℕ) → EncloseRun d x v xs vs q → (k l : ℕ) → k < d.stages → l < d.inputs →
    Encloses (v (k * d.inputs + l)) (pos (d.plant_denominator ^ k) *ℤ vs (k * d.inputs + l)) (pos (q * d.plant_denominator ^ k))
input_encloses d x v xs vs q h k l m o =
    brought (v (k * d.inputs + l)) (vs (k * d.inputs + l)) q (d.plant_denominator ^ k) (q * d.plant_denominator ^ k) (turn q (d.plant_denominator ^ k)) h.over
    (over_power q d.plant_denominator k h.over h.plant) (h.plan (k * d.inputs + l) (plan_inside k d.stages d.inputs l m o))
  where
    turn : (a b : ℕ) → a * b ≡ b * a
    turn a b = omega arith

-- the state at a stage, over that power
pub run_encloses : (d : Design) (x v : ℕ → Enclosure) (xs vs : ℕ → ℤ) (q : ℕ) → EncloseRun d x v xs vs q → (k i : ℕ) → k ≤ d.stages → i < d.states →
    Encloses (fine_run d x v k i) (run d xs vs k i) (pos (q * d.plant_denominator ^ k))
run_encloses d x v xs vs q h zero i l m = enclosed_as _ (pos q) refl (ap pos (times_one q d.plant_denominator)) (h.state i m)
  where
    times_one : (q a : ℕ) → q ≡ q * a ^ 0
    times_one q a = rw (pow-zero a) (omega arith)
run_encloses d x v xs vs q h (suc k) i l m =
    enclosed_as _ _ (followed_total d.states d.inputs (d.plant_a i) (d.plant_b i) (run d xs vs k) scaled ∙
    ap (λ (z : ℤ). dot d.states (d.plant_a i) (run d xs vs k) +ℤ z) (dot_scale_right d.inputs (pos (d.plant_denominator ^ k)) (d.plant_b i) (λ l. vs (k * d.inputs + l))))
    (ap pos (further q d.plant_denominator k))
    (combined_law (d.states + d.inputs) (followed d.states (d.plant_a i) (d.plant_b i)) _ d.plant_denominator h.plant (followed d.states (run d xs vs k) scaled)
    (pos (q * d.plant_denominator ^ k)) (natural_some _ (over_power q d.plant_denominator k h.over h.plant))
    (followed_encloses d.states d.inputs (fine_run d x v k) (λ l. v (k * d.inputs + l)) (run d xs vs k) scaled (pos (q * d.plant_denominator ^ k))
    (λ j o. run_encloses d x v xs vs q h k j (omega arith) o) (λ j o. input_encloses d x v xs vs q h k j l o)))
  where
    scaled : ℕ → ℤ
    scaled l = pos (d.plant_denominator ^ k) *ℤ vs (k * d.inputs + l)

    further : (q a k : ℕ) → q * a ^ k * a ≡ q * a ^ suc k
    further q a k = rw (pow-suc a k) (omega arith)

-- ---- sums at a stage
-- a sum over q and a power of the plant's denominator, over the last power
lifted : (d : Design) (e : Enclosure) (z : ℤ) (q k : ℕ) → 1 ≤ d.plant_denominator → 1 ≤ q → k ≤ d.stages →
    Encloses e z (pos (q * d.plant_denominator ^ k) *ℤ pos 1) → Encloses e (lift d k *ℤ z) (pos (q * d.plant_denominator ^ d.stages))
lifted d e z q k h some l w =
    brought e z (q * d.plant_denominator ^ k * 1) (d.plant_denominator ^ (d.stages - k)) (q * d.plant_denominator ^ d.stages)
    (parts q _ _ _ (lift_power d.plant_denominator d.stages k l)) (one-le-mul (over_power q d.plant_denominator k some h) (lit< tt))
    (over_power q d.plant_denominator d.stages some h) w
  where
    parts : (q m a n : ℕ) → m * a ≡ n → q * n ≡ m * (q * a * 1)
    parts q m a n e = rw (← e) (omega arith)

-- what a row has of the state, over the last power
pub sum_encloses : (d : Design) (x v : ℕ → Enclosure) (xs vs : ℕ → ℤ) (q : ℕ) → EncloseRun d x v xs vs q → (c : ℕ → ℤ) (k : ℕ) → k ≤ d.stages →
    Encloses (combined d.states c (fine_run d x v k) 1) (lift d k *ℤ dot d.states c (run d xs vs k)) (pos (q * d.plant_denominator ^ d.stages))
sum_encloses d x v xs vs q h c k l =
    lifted d _ (dot d.states c (run d xs vs k)) q k h.plant h.over l
    (combined_law d.states c (fine_run d x v k) 1 (lit< tt) (run d xs vs k) (pos (q * d.plant_denominator ^ k)) (natural_some _ (over_power q d.plant_denominator k h.over h.plant))
    (λ i o. run_encloses d x v xs vs q h k i l o))

-- and of the input
inputs_enclose : (d : Design) (x v : ℕ → Enclosure) (xs vs : ℕ → ℤ) (q : ℕ) → EncloseRun d x v xs vs q → (c : ℕ → ℤ) (k : ℕ) → k < d.stages →
    Encloses (combined d.inputs c (λ l. v (k * d.inputs + l)) 1) (lift d k *ℤ (pos (d.plant_denominator ^ k) *ℤ dot d.inputs c (λ l. vs (k * d.inputs + l))))
    (pos (q * d.plant_denominator ^ d.stages))
inputs_enclose d x v xs vs q h c k l =
    lifted d _ _ q k h.plant h.over (before l)
    (enclosed_as _ _ (dot_scale_right d.inputs (pos (d.plant_denominator ^ k)) c (λ l. vs (k * d.inputs + l))) refl
    (combined_law d.inputs c (λ l. v (k * d.inputs + l)) 1 (lit< tt) (λ l. pos (d.plant_denominator ^ k) *ℤ vs (k * d.inputs + l)) (pos (q * d.plant_denominator ^ k))
    (natural_some _ (over_power q d.plant_denominator k h.over h.plant)) (λ j o. input_encloses d x v xs vs q h k j l o)))
  where
    before : {a b : ℕ} → a < b → a ≤ b
    before h = omega arith

-- a whole number at a stage, over the last power
pub whole_encloses : (d : Design) (z : ℤ) (k : ℕ) → k ≤ d.stages → Encloses (exactly z) (lift d k *ℤ (pos (d.plant_denominator ^ k) *ℤ z)) (pos (d.plant_denominator ^ d.stages))
whole_encloses d z k l =
    enclosed_as (z *ℤ pos (d.plant_denominator ^ d.stages)) _ (lifted (d.plant_denominator ^ (d.stages - k)) (d.plant_denominator ^ k) _ (lift_power d.plant_denominator d.stages k l)) refl
    (whole_law z (pos (d.plant_denominator ^ d.stages)))
  where
    plain : (m q : ℤ) → z *ℤ (m *ℤ q) ≡ m *ℤ (q *ℤ z)
    plain m q = by_ring (z ∷ m ∷ q ∷ []) (search quotes depth 60 fits 20000) refl

    lifted : (m q n : ℕ) → m * q ≡ n → z *ℤ pos n ≡ pos m *ℤ (pos q *ℤ z)
    lifted m q n e = rw (← e) (plain (pos m) (pos q))

-- ---- the cost rows
pub cost_encloses : (d : Design) (x v : ℕ → Enclosure) (xs vs : ℕ → ℤ) (q : ℕ) → EncloseRun d x v xs vs q → (c : ℕ) →
    Encloses (fine_cost d x v c) (counted d (cost_run d xs vs) c) (pos (q * d.plant_denominator ^ d.stages))
cost_encloses d x v xs vs q h c = elim (cases_lt c (d.stages * d.stage_costs)) [
  | inl m ↦ rw (lt-ltb c (d.stages * d.stage_costs) m)
      (sum_encloses d x v xs vs q h (d.stage_cost (c % d.stage_costs)).coefficient (suc (c / d.stage_costs)) (stage_inside c d.stages d.stage_costs m))
  | inr m ↦ rw (le-ltb c (d.stages * d.stage_costs) m) (sum_encloses d x v xs vs q h (d.final_cost (c - d.stages * d.stage_costs)).coefficient d.stages (same d.stages))
]
  where
    same : (n : ℕ) → n ≤ n
    same n = omega arith

-- ---- the limit rows
stage_limit_encloses : (d : Design) (x v : ℕ → Enclosure) (xs vs : ℕ → ℤ) (q : ℕ) → EncloseRun d x v xs vs q → (k : ℕ) (r : LimitRow) → k < d.stages →
    Encloses (fine_stage_limit d x v k r) (limit_at d xs vs k r) (pos (q * d.plant_denominator ^ d.stages))
stage_limit_encloses d x v xs vs q h k r l =
    enclosed_as _ _ (together (lift d k) (dot d.states r.of_state (run d xs vs k)) _) refl
    (common_law _ _ _ _ _ (sum_encloses d x v xs vs q h r.of_state k (before l)) (inputs_enclose d x v xs vs q h r.of_input k l))
  where
    together : (m s t : ℤ) → m *ℤ s +ℤ m *ℤ t ≡ m *ℤ (s +ℤ t)
    together m s t = by_ring (m ∷ s ∷ t ∷ []) (search quotes depth 60 fits 20000) refl

    before : {a b : ℕ} → a < b → a ≤ b
    before h = omega arith

final_limit_encloses : (d : Design) (x v : ℕ → Enclosure) (xs vs : ℕ → ℤ) (q : ℕ) → EncloseRun d x v xs vs q → (r : LimitRow) →
    Encloses (fine_final_limit d x v d.stages r) (dot d.states r.of_state (run d xs vs d.stages)) (pos (q * d.plant_denominator ^ d.stages))
final_limit_encloses d x v xs vs q h r =
    enclosed_as _ (pos (q * d.plant_denominator ^ d.stages) *ℤ pos 1) refl (times_one (pos (q * d.plant_denominator ^ d.stages)))
    (combined_law d.states r.of_state (fine_run d x v d.stages) 1 (lit< tt) (run d xs vs d.stages) (pos (q * d.plant_denominator ^ d.stages))
    (natural_some _ (over_power q d.plant_denominator d.stages h.over h.plant)) (λ i o. run_encloses d x v xs vs q h d.stages i (same d.stages) o))
  where
    times_one : (z : ℤ) → z *ℤ pos 1 ≡ z
    times_one z = omega (arith, ints)

    same : (n : ℕ) → n ≤ n
    same n = omega arith

pub limit_encloses : (d : Design) (x v : ℕ → Enclosure) (xs vs : ℕ → ℤ) (q : ℕ) → EncloseRun d x v xs vs q → (i : ℕ) →
    Encloses (fine_limit d x v i) (row_at d xs vs i) (pos (q * d.plant_denominator ^ d.stages))
limit_encloses d x v xs vs q h i = elim (cases_lt i (d.stages * d.stage_limits)) [
  | inl m ↦ rw (lt-ltb i (d.stages * d.stage_limits) m)
      (stage_limit_encloses d x v xs vs q h (i / d.stage_limits) (d.stage_limit (i % d.stage_limits)) (stage_inside i d.stages d.stage_limits m))
  | inr m ↦ rw (le-ltb i (d.stages * d.stage_limits) m) (final_limit_encloses d x v xs vs q h (d.final_limit (i - d.stages * d.stage_limits)))
]

-- ---- whole numbers
whole_run : (d : Design) (xs vs : ℕ → ℤ) → 1 ≤ d.plant_denominator → EncloseRun d (wholes xs) (wholes vs) xs vs 1
whole_run d xs vs h = record { plant = h; over = lit< tt; state = λ i l. whole (xs i); plan = λ j l. whole (vs j) }
  where
    whole : (z : ℤ) → Encloses (exactly z) z (pos 1)
    whole z = enclosed_as (z *ℤ pos 1) (pos 1) (times_one z) refl (whole_law z (pos 1))
      where
        times_one : (z : ℤ) → z *ℤ pos 1 ≡ z
        times_one z = omega (arith, ints)

one_over : (a n : ℕ) → pos (1 * a ^ n) ≡ pos (a ^ n)
one_over a n = ap pos (once (a ^ n))
  where
    once : (n : ℕ) → 1 * n ≡ n
    once n = omega arith

-- what rows have of a run of whole numbers
pub whole_cost_encloses : (d : Design) (xs vs : ℕ → ℤ) → 1 ≤ d.plant_denominator → (c : ℕ) →
    Encloses (fine_cost d (wholes xs) (wholes vs) c) (counted d (cost_run d xs vs) c) (pos (d.plant_denominator ^ d.stages))
whole_cost_encloses d xs vs h c = enclosed_as _ _ refl (one_over d.plant_denominator d.stages) (cost_encloses d (wholes xs) (wholes vs) xs vs 1 (whole_run d xs vs h) c)

pub whole_limit_encloses : (d : Design) (xs vs : ℕ → ℤ) → 1 ≤ d.plant_denominator → (i : ℕ) →
    Encloses (fine_limit d (wholes xs) (wholes vs) i) (row_at d xs vs i) (pos (d.plant_denominator ^ d.stages))
whole_limit_encloses d xs vs h i = enclosed_as _ _ refl (one_over d.plant_denominator d.stages) (limit_encloses d (wholes xs) (wholes vs) xs vs 1 (whole_run d xs vs h) i)
