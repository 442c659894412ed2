-- Counted cost rows along runs.
use Rattle.std.proofs.Common.{◌≡◌, inl, inr, ℕ, zero, suc, ◌+◌, ◌-◌, ◌*◌, ◌/◌, ◌%◌, ◌^◌, ◌<◌, ◌≤◌, ℤ, pos, ◌*ℤ◌, unsigned_abs, arith, ◌∙◌, refl}
use Rattle.std.proofs.lemmas.Int.{unsigned_abs-mul}
use Rattle.std.proofs.lemmas.Bool.{cases_lt, lt-ltb, le-ltb}
use Rattle.std.proofs.Math.Nat.{mul-le-mul_left, pow-le-pow_left}
use Rattle.integer_algebra.specs.Sizes.{size, product_size}
use Rattle.integer_algebra.proofs.SizeLaws.{total_size, size_same}
use Rattle.qp_model.specs.problem.Design.{Design, CostRow, entries}
use Rattle.qp_model.specs.problem.Runs.{run, counted, counts, cost_run, BoundsGrowth, CostBoundLaw}
use Rattle.qp_model.proofs.RunLaws.{run_within, product_within, plan_inside}
use Rattle.qp_model.proofs.RowLaws.{lift_power, stage_inside, remainder_inside}
use Rattle.qp_model.proofs.SizeFacts.{size_append}
use Rattle.std.proofs.lemmas.Nat.{mod-mul-add}

-- ---- a counted row is a stage row or a final row
pub counted_stage : (d : Design) (f : ℕ → CostRow → ℤ) (c : ℕ) → c < d.stages * d.stage_costs → counted d f c ≡ f (suc (c / d.stage_costs)) (d.stage_cost (c % d.stage_costs))
counted_stage d f c l = rw (lt-ltb c (d.stages * d.stage_costs) l) refl

pub counted_final : (d : Design) (f : ℕ → CostRow → ℤ) (c : ℕ) → d.stages * d.stage_costs ≤ c → counted d f c ≡ f d.stages (d.final_cost (c - d.stages * d.stage_costs))
counted_final d f c l = rw (le-ltb c (d.stages * d.stage_costs) l) refl

-- what holds of each row at its stage holds of each counted row
pub counted_all : (d : Design) (f : ℕ → CostRow → ℤ) (P : ℤ → Type 0) →
    ((k r : ℕ) → k < d.stages → r < d.stage_costs → P (f (suc k) (d.stage_cost r))) →
    ((r : ℕ) → r < d.final_costs → P (f d.stages (d.final_cost r))) →
    (c : ℕ) → c < counts d → P (counted d f c)
counted_all d f P hs hf c l = elim (cases_lt c (d.stages * d.stage_costs)) [
  | inl m ↦ rw (counted_stage d f c m) (hs (c / d.stage_costs) (c % d.stage_costs) (stage_inside c d.stages d.stage_costs m) (remainder_inside c d.stages d.stage_costs m))
  | inr m ↦ rw (counted_final d f c m) (hf (c - d.stages * d.stage_costs) (omega arith))
]

-- ---- bounds
-- a row's sum at a stage, times what lifts it
pub cost_room : (d : Design) (alpha z width : ℕ) (x v a : ℕ → ℤ) → BoundsGrowth d alpha → size d.states a ≤ width →
    ((i : ℕ) → i < d.states → unsigned_abs (x i) ≤ z) → ((j : ℕ) → j < entries d → unsigned_abs (v j) ≤ z) →
    (k : ℕ) → k ≤ d.stages → d.plant_denominator ^ (d.stages - k) * product_size d.states a (run d x v k) ≤ width * (z * alpha ^ d.stages)
cost_room d alpha z width x v a t s hx hv k l =
    numbers _ _ _ _ width z (alpha ^ k) _ (pow-le-pow_left t.denominator (d.stages - k))
    (product_within d.states a (run d x v k) (z * alpha ^ k) (λ i o. run_within d alpha z x v t hx hv k i l o)) s
    (lift_power alpha d.stages k l)
  where
    numbers : (c b m e w z a n : ℕ) → c ≤ b → m ≤ e * (z * a) → e ≤ w → b * a ≡ n → c * m ≤ w * (z * n)
    numbers c b m e w z a n h k s f = rw (← f) (omega (arith, mul-le-mul_left m h, mul-le-mul_left b k, mul-le-mul_left (b * (z * a)) s))

pub cost_bound_law : CostBoundLaw
cost_bound_law d alpha z width x v t s hx hv = counted_all d (cost_run d x v) (λ y. unsigned_abs y ≤ width * (z * alpha ^ d.stages))
    (λ k r l o. one (suc k) (d.stage_cost r) (omega arith) (s.stage r o)) (λ r o. one d.stages (d.final_cost r) (omega arith) (s.final r o))
  where
    lifted : (m : ℕ) (y : ℤ) (e top : ℕ) → unsigned_abs y ≤ e → m * e ≤ top → unsigned_abs (pos m *ℤ y) ≤ top
    lifted m y e top h k = omega (arith, unsigned_abs-mul (pos m) y, mul-le-mul_left m h)

    one : (k : ℕ) (r : CostRow) → k ≤ d.stages → size d.states r.coefficient ≤ width → unsigned_abs (cost_run d x v k r) ≤ width * (z * alpha ^ d.stages)
    one k r l n = lifted _ _ _ _ (total_size d.states (λ i. r.coefficient i *ℤ run d x v k i)) (cost_room d alpha z width x v r.coefficient t n hx hv k l)

-- ---- absolute sums over counted rows
size_blocks : (m w : ℕ) (f : ℕ → ℤ) (g : ℕ → ℤ) → ((k r : ℕ) → k < m → r < w → f (k * w + r) ≡ g r) → size (m * w) f ≡ m * size w g
size_blocks zero w f g h = let e : 0 * w ≡ 0 = omega arith in rw e (omega arith)
size_blocks (suc m) w f g h =
    let e : suc m * w ≡ m * w + w = omega arith in
    rw (e, size_append (m * w) w f, size_blocks m w f g (λ k r l o. h k r (omega arith) o), size_same w (λ r. f (m * w + r)) g (λ r o. h m r (omega arith) o)) (omega arith)

-- of numbers that do not depend on the stage
pub counted_size : (d : Design) (f : CostRow → ℤ) → size (counts d) (counted d (λ k r. f r)) ≡
    d.stages * size d.stage_costs (λ r. f (d.stage_cost r)) + size d.final_costs (λ r. f (d.final_cost r))
counted_size d f = size_append (d.stages * d.stage_costs) d.final_costs (counted d (λ k r. f r)) ∙ joined _ _ _ _
    (size_blocks d.stages d.stage_costs (counted d (λ k r. f r)) (λ r. f (d.stage_cost r)) stage)
    (size_same d.final_costs _ _ (λ r l. final r))
  where
    joined : (a b c e : ℕ) → a ≡ c → b ≡ e → a + b ≡ c + e
    joined a b c e h k = omega arith

    stage : (k r : ℕ) → k < d.stages → r < d.stage_costs → counted d (λ k r. f r) (k * d.stage_costs + r) ≡ f (d.stage_cost r)
    stage k r l o = rw (lt-ltb (k * d.stage_costs + r) (d.stages * d.stage_costs) (plan_inside k d.stages d.stage_costs r l o), mod-mul-add k d.stage_costs r o) refl

    past : (a r : ℕ) → a + r - a ≡ r
    past a r = omega arith

    final : (r : ℕ) → counted d (λ k r. f r) (d.stages * d.stage_costs + r) ≡ f (d.final_cost r)
    final r = rw (le-ltb (d.stages * d.stage_costs + r) (d.stages * d.stage_costs) (omega arith), past (d.stages * d.stage_costs) r) refl
