-- What a design's quantities bound.
use Rattle.std.proofs.Common.{◌≡◌, inl, inr, ℕ, ◌+◌, ◌-◌, ◌*◌, ◌%◌, ◌^◌, ◌<◌, ◌≤◌, Bool, true, false, pos, nat_eq, if◌then◌else◌, unsigned_abs, arith}
use Rattle.std.proofs.lemmas.Bool.{cases_lt, lt-ltb, le-ltb}
use Rattle.std.proofs.Math.Nat.{mul-le-mul_left, pow-le-pow_left}
use Rattle.integer_algebra.specs.Sums.{none}
use Rattle.integer_algebra.specs.Sizes.{size}
use Rattle.qp_model.specs.problem.Design.{Design, rows}
use Rattle.qp_model.specs.form.Quantities.{plant_width, cost_row_width, limit_row_width, growth, cost_width, limit_width, weight_sum, prediction_size, response_size, limit_entry_size}
use Rattle.qp_model.specs.problem.Runs.{unit, bound_at, row_at, counted, counts, cost_run, BoundsGrowth, HasNarrowLimits, HasNarrowCosts}
use Rattle.qp_model.proofs.RowLaws.{remainder_inside, row_bound_law}
use Rattle.qp_model.proofs.CountLaws.{counted_all, counted_size, cost_bound_law}
use Rattle.qp_model.proofs.SizeFacts.{greatest_term}

-- ---- the widths
pub growth_bound : (d : Design) → BoundsGrowth d (growth d)
growth_bound d = record { denominator = omega arith; plant = λ i l. omega (arith, greatest_term i d.states (plant_width d) l) }

pub narrow_costs : (d : Design) → HasNarrowCosts d (cost_width d)
narrow_costs d = record {
  stage = λ r l. omega (arith, greatest_term r d.stage_costs (λ r. cost_row_width d (d.stage_cost r)) l);
  final = λ r l. omega (arith, greatest_term r d.final_costs (λ r. cost_row_width d (d.final_cost r)) l);
}

pub narrow : (d : Design) → HasNarrowLimits d (limit_width d)
narrow d = record {
  stage = λ r l. omega (arith, greatest_term r d.stage_limits (λ r. limit_row_width d (d.stage_limit r)) l);
  final = λ r l. omega (arith, greatest_term r d.final_limits (λ r. limit_row_width d (d.final_limit r)) l);
}

-- the bounds
pub bound_width : (d : Design) (i : ℕ) → i < rows d → unsigned_abs (bound_at d i) ≤ limit_width d
bound_width d i l = elim (cases_lt i (d.stages * d.stage_limits)) [
  | inl m ↦ rw (lt-ltb i (d.stages * d.stage_limits) m) (omega (arith, greatest_term (i % d.stage_limits) d.stage_limits (λ r. limit_row_width d (d.stage_limit r)) (remainder_inside i d.stages d.stage_limits m)))
  | inr m ↦ rw (le-ltb i (d.stages * d.stage_limits) m) (omega (arith, greatest_term (i - d.stages * d.stage_limits) d.final_limits (λ r. limit_row_width d (d.final_limit r)) (omega arith)))
]

-- the targets
pub target_width : (d : Design) (c : ℕ) → c < counts d → unsigned_abs (counted d (λ k r. r.target) c) ≤ cost_width d
target_width d = counted_all d (λ k r. r.target) (λ y. unsigned_abs y ≤ cost_width d)
    (λ k r l o. omega (arith, greatest_term r d.stage_costs (λ r. cost_row_width d (d.stage_cost r)) o))
    (λ r l. omega (arith, greatest_term r d.final_costs (λ r. cost_row_width d (d.final_cost r)) l))

-- the weights of the counted rows, and of the inputs
pub weights_size : (d : Design) → d.cost_denominator + size (counts d) (counted d (λ k r. r.weight)) + d.stages * size d.inputs d.input_weight ≤ weight_sum d
weights_size d = joined d.stages _ _ _ _ d.cost_denominator (counted_size d (λ r. r.weight))
  where
    joined : (n a b c s e : ℕ) → s ≡ n * a + c → e + s + n * b ≤ e + n * (a + b) + c
    joined n a b c s e h = omega (arith, h)

-- ---- responses to units
pub unit_small : (j i : ℕ) → unsigned_abs (unit j i) ≤ 1
unit_small j i = chosen (nat_eq j i)
  where
    chosen : (b : Bool) → unsigned_abs (if b then pos 1 else pos 0) ≤ 1
    chosen true = omega arith
    chosen false = omega arith

none_small : (i : ℕ) → unsigned_abs (none i) ≤ 1
none_small i = omega arith

one : (w z : ℕ) → w * (1 * z) ≤ w * z
one w z = omega arith

pub plan_cost_size : (d : Design) (j c : ℕ) → c < counts d → unsigned_abs (counted d (cost_run d none (unit j)) c) ≤ response_size d
plan_cost_size d j c l = last (cost_bound_law d (growth d) 1 (cost_width d) none (unit j) (growth_bound d) (narrow_costs d) (λ i o. none_small i) (λ i o. unit_small j i) c l) (one (cost_width d) (prediction_size d))
  where
    last : {a b e : ℕ} → a ≤ b → b ≤ e → a ≤ e
    last {a} {b} {e} h k = omega arith

pub state_cost_size : (d : Design) (j c : ℕ) → c < counts d → unsigned_abs (counted d (cost_run d (unit j) none) c) ≤ response_size d
state_cost_size d j c l = last (cost_bound_law d (growth d) 1 (cost_width d) (unit j) none (growth_bound d) (narrow_costs d) (λ i o. unit_small j i) (λ i o. none_small i) c l) (one (cost_width d) (prediction_size d))
  where
    last : {a b e : ℕ} → a ≤ b → b ≤ e → a ≤ e
    last {a} {b} {e} h k = omega arith

pub plan_row_size : (d : Design) (j i : ℕ) → 1 ≤ d.plant_denominator → i < rows d → unsigned_abs (row_at d none (unit j) i) ≤ limit_entry_size d
plan_row_size d j i h l = last (row_bound_law d (growth d) 1 (limit_width d) none (unit j) h (growth_bound d) (narrow d) (λ i o. none_small i) (λ i o. unit_small j i) i l) (one (limit_width d) (prediction_size d))
  where
    last : {a b e : ℕ} → a ≤ b → b ≤ e → a ≤ e
    last {a} {b} {e} h k = omega arith

pub state_row_size : (d : Design) (j i : ℕ) → 1 ≤ d.plant_denominator → i < rows d → unsigned_abs (row_at d (unit j) none i) ≤ limit_entry_size d
state_row_size d j i h l = last (row_bound_law d (growth d) 1 (limit_width d) (unit j) none h (growth_bound d) (narrow d) (λ i o. unit_small j i) (λ i o. none_small i) i l) (one (limit_width d) (prediction_size d))
  where
    last : {a b e : ℕ} → a ≤ b → b ≤ e → a ≤ e
    last {a} {b} {e} h k = omega arith

-- the denominator's power times a number of at most a width
pub powered_size : (d : Design) (w x : ℕ) → x ≤ w → d.plant_denominator ^ d.stages * x ≤ w * prediction_size d
powered_size d w x h = numbers _ _ w x (pow-le-pow_left power d.stages) h
  where
    power : d.plant_denominator ≤ growth d
    power = omega arith

    numbers : (a b w x : ℕ) → a ≤ b → x ≤ w → a * x ≤ w * b
    numbers a b w x h k = omega (arith, mul-le-mul_left x h, mul-le-mul_left b k)
