-- The run of the one recipe in the exact class.
use Rattle.std.proofs.Common.{◌≡◌, inl, inr, ℕ, zero, suc, ◌+◌, ◌-◌, ◌*◌, ◌/◌, ◌%◌, ◌^◌, ◌<◌, ◌≤◌, [], ◌∷◌, ℤ, pos, ◌+ℤ◌, ◌*ℤ◌, arith, ap, ◌∙◌, refl}
use Rattle.std.proofs.lemmas.Int.{ints}
use Rattle.std.proofs.lemmas.Bool.{cases_lt, lt-ltb, le-ltb}
use Rattle.std.proofs.Math.Nat.{pow-suc, pow-zero}
use Rattle.integer_algebra.specs.Sums.{dot}
use Rattle.integer_algebra.proofs.VectorLaws.{dot_scale_right}
use Rattle.integer_algebra.proofs.Quoting.{by_ring, quotes}
use Rattle.frac_scaled.specs.Enclosures.{Enclosure, divided, sum_of}
use Rattle.mat_int.specs.Enclosures.{combination, combined}
use Rattle.qp_model.specs.problem.Design.{Design, LimitRow}
use Rattle.qp_model.specs.problem.Trajectory.{lift}
use Rattle.qp_model.specs.problem.Runs.{run, limit_at}
use Rattle.qp_model.specs.form.FineForm.{followed, fine_run, fine_final_limit, fine_stage_limit}
use Rattle.qp_model.proofs.RowLaws.{lift_power, stage_inside}
use Rattle.scaled_run.specs.ScaledForm.{whole, wholes_over, exact_unit}
use Rattle.scaled_run.specs.ScaledLaws.{ExactRunLaw, ExactCostLaw, ExactLimitLaw}
use Rattle.scaled_run.proofs.EvenLaws.{bare, divided_whole, combination_whole, combined_one, followed_whole, followed_total}

-- the powers of the plant's denominator that are left at a stage
left_before : (a n k : ℕ) → suc k ≤ n → a ^ (n - k) ≡ a ^ (n - suc k) * a
left_before a n k l = ap (λ m. a ^ m) (next n k l) ∙ pow-suc a (n - suc k)
  where
    next : (n k : ℕ) → suc k ≤ n → n - k ≡ suc (n - suc k)
    next n k l = omega arith

-- a number over the unit is one over what is left at a stage
brought : (a n k : ℕ) (z : ℤ) → k ≤ n → whole (a ^ n) z ≡ whole (a ^ (n - k)) (pos (a ^ k) *ℤ z)
brought a n k z l = ap bare (parts (a ^ (n - k)) (a ^ k) (a ^ n) (lift_power a n k l))
  where
    plain : (m q : ℤ) → m *ℤ q *ℤ z ≡ m *ℤ (q *ℤ z)
    plain m q = by_ring (m ∷ q ∷ z ∷ []) (search quotes depth 60 fits 20000) refl

    parts : (m q n : ℕ) → m * q ≡ n → pos n *ℤ z ≡ pos m *ℤ (pos q *ℤ z)
    parts m q n e = rw (← e) (plain (pos m) (pos q))

-- what comes before the division, from what is so of the stage before
before : (d : Design) (x v : ℕ → ℤ) (k i : ℕ) → k ≤ d.stages →
    ((j : ℕ) → j < d.states → fine_run d (wholes_over (exact_unit d) x) (wholes_over (exact_unit d) v) k j ≡ whole (d.plant_denominator ^ (d.stages - k)) (run d x v k j)) →
    combination (d.states + d.inputs) (followed d.states (d.plant_a i) (d.plant_b i))
    (followed d.states (fine_run d (wholes_over (exact_unit d) x) (wholes_over (exact_unit d) v) k) (λ l. wholes_over (exact_unit d) v (k * d.inputs + l))) ≡
    whole (d.plant_denominator ^ (d.stages - k)) (run d x v (suc k) i)
before d x v k i l h =
    combination_whole (d.states + d.inputs) (d.plant_denominator ^ (d.stages - k)) (followed d.states (d.plant_a i) (d.plant_b i)) _ (followed d.states (run d x v k) scaled)
    (followed_whole d.states d.inputs (d.plant_denominator ^ (d.stages - k)) _ _ (run d x v k) scaled h
    (λ j o. brought d.plant_denominator d.stages k (v (k * d.inputs + j)) l)) ∙
    ap (λ (z : ℤ). whole (d.plant_denominator ^ (d.stages - k)) z)
    (followed_total d.states d.inputs (d.plant_a i) (d.plant_b i) (run d x v k) scaled ∙
    ap (λ (z : ℤ). dot d.states (d.plant_a i) (run d x v k) +ℤ z) (dot_scale_right d.inputs (pos (d.plant_denominator ^ k)) (d.plant_b i) (λ l. v (k * d.inputs + l))))
  where
    scaled : ℕ → ℤ
    scaled l = pos (d.plant_denominator ^ k) *ℤ v (k * d.inputs + l)

-- the law
pub exact_run_law : ExactRunLaw
exact_run_law d x v zero i h l = ap (λ (m : ℕ). whole (d.plant_denominator ^ m) (x i)) (all d.stages)
  where
    all : (n : ℕ) → n ≡ n - 0
    all n = omega arith
exact_run_law d x v (suc k) i h l =
    ap (λ (e : Enclosure). divided e d.plant_denominator) (before d x v k i (shorter l) (λ j o. exact_run_law d x v k j h (shorter l)) ∙
    ap (λ (m : ℕ). whole m (run d x v (suc k) i)) (left_before d.plant_denominator d.stages k l)) ∙
    divided_whole (d.plant_denominator ^ (d.stages - suc k)) d.plant_denominator (run d x v (suc k) i) h
  where
    shorter : {a b : ℕ} → suc a ≤ b → a ≤ b
    shorter h = omega arith

-- ---- rows
-- what a row has of the state at a stage
sum_is : (d : Design) (x v c : ℕ → ℤ) (k : ℕ) → 1 ≤ d.plant_denominator → k ≤ d.stages →
    combined d.states c (fine_run d (wholes_over (exact_unit d) x) (wholes_over (exact_unit d) v) k) 1 ≡ bare (lift d k *ℤ dot d.states c (run d x v k))
sum_is d x v c k h l = combined_one d.states (d.plant_denominator ^ (d.stages - k)) c _ (run d x v k) (λ i o. exact_run_law d x v k i h l)

-- over 1
bare_one : (z : ℤ) → bare z ≡ whole 1 z
bare_one z = ap bare (once z)
  where
    once : (z : ℤ) → z ≡ pos 1 *ℤ z
    once z = omega (arith, ints)

pub exact_cost_law : ExactCostLaw
exact_cost_law d x v c h = elim (cases_lt c (d.stages * d.stage_costs)) [
  | inl m ↦ rw (lt-ltb c (d.stages * d.stage_costs) m) (sum_is d x v (d.stage_cost (c % d.stage_costs)).coefficient (suc (c / d.stage_costs)) h (stage_inside c d.stages d.stage_costs m) ∙ bare_one _)
  | inr m ↦ rw (le-ltb c (d.stages * d.stage_costs) m) (sum_is d x v (d.final_cost (c - d.stages * d.stage_costs)).coefficient d.stages h (same d.stages) ∙ bare_one _)
]
  where
    same : (n : ℕ) → n ≤ n
    same n = omega arith

stage_is : (d : Design) (x v : ℕ → ℤ) (k : ℕ) (r : LimitRow) → 1 ≤ d.plant_denominator → k < d.stages →
    fine_stage_limit d (wholes_over (exact_unit d) x) (wholes_over (exact_unit d) v) k r ≡ bare (limit_at d x v k r)
stage_is d x v k r h l =
    ap (λ (e : Enclosure). sum_of e (combined d.inputs r.of_input (λ l. wholes_over (exact_unit d) v (k * d.inputs + l)) 1)) (sum_is d x v r.of_state k h (before l)) ∙
    ap (λ (e : Enclosure). sum_of (bare (lift d k *ℤ dot d.states r.of_state (run d x v k))) e)
    (combined_one d.inputs (exact_unit d) r.of_input _ (λ l. v (k * d.inputs + l)) (λ j o. refl)) ∙
    ap bare (together (d.plant_denominator ^ (d.stages - k)) (d.plant_denominator ^ k) (d.plant_denominator ^ d.stages) (lift_power d.plant_denominator d.stages k (before l))
    (dot d.states r.of_state (run d x v k)) (dot d.inputs r.of_input (λ l. v (k * d.inputs + l))))
  where
    before : {a b : ℕ} → a < b → a ≤ b
    before h = omega arith

    plain : (m q s t : ℤ) → m *ℤ s +ℤ m *ℤ q *ℤ t ≡ m *ℤ (s +ℤ q *ℤ t)
    plain m q s t = by_ring (m ∷ q ∷ s ∷ t ∷ []) (search quotes depth 60 fits 20000) refl

    together : (m q n : ℕ) → m * q ≡ n → (s t : ℤ) → pos m *ℤ s +ℤ pos n *ℤ t ≡ pos m *ℤ (s +ℤ pos q *ℤ t)
    together m q n e s t = rw (← e) (plain (pos m) (pos q) s t)

final_is : (d : Design) (x v : ℕ → ℤ) (r : LimitRow) → 1 ≤ d.plant_denominator →
    fine_final_limit d (wholes_over (exact_unit d) x) (wholes_over (exact_unit d) v) d.stages r ≡ bare (dot d.states r.of_state (run d x v d.stages))
final_is d x v r h = sum_is d x v r.of_state d.stages h (same d.stages) ∙ ap bare (once d.plant_denominator d.stages _)
  where
    same : (n : ℕ) → n ≤ n
    same n = omega arith

    last : (n : ℕ) → n - n ≡ 0
    last n = omega arith

    once : (a n : ℕ) (z : ℤ) → pos (a ^ (n - n)) *ℤ z ≡ z
    once a n z = rw (last n, pow-zero a) (omega (arith, ints))

pub exact_limit_law : ExactLimitLaw
exact_limit_law d x v i h = elim (cases_lt i (d.stages * d.stage_limits)) [
  | inl m ↦ rw (lt-ltb i (d.stages * d.stage_limits) m)
      (stage_is d x v (i / d.stage_limits) (d.stage_limit (i % d.stage_limits)) h (stage_inside i d.stages d.stage_limits m) ∙ bare_one _)
  | inr m ↦ rw (le-ltb i (d.stages * d.stage_limits) m) (final_is d x v (d.final_limit (i - d.stages * d.stage_limits)) h ∙ bare_one _)
]
