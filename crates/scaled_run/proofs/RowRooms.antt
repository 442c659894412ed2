-- How far what the rows have of a run in enclosures reaches.
use Rattle.std.proofs.Common.{inl, inr, ℕ, ◌+◌, ◌-◌, ◌*◌, ◌/◌, ◌%◌, ◌<◌, ◌≤◌, ℤ, pos, ◌+ℤ◌, ◌≤ℤ◌, arith}
use Rattle.std.proofs.lemmas.Int.{ints}
use Rattle.std.proofs.lemmas.Bool.{cases_lt, lt-ltb, le-ltb}
use Rattle.std.proofs.Math.Nat.{mul-le-mul_left}
use Rattle.integer_algebra.specs.Sizes.{size}
use Rattle.frac_scaled.specs.Enclosures.{Enclosure, magnitude}
use Rattle.mat_int.specs.Enclosures.{combined, combination_magnitude}
use Rattle.qp_model.specs.problem.Design.{Design, LimitRow, entries, rows}
use Rattle.qp_model.specs.form.Quantities.{cost_width, limit_width}
use Rattle.qp_model.specs.problem.Runs.{counts}
use Rattle.qp_model.specs.form.FineForm.{fine_run, counted_stage, counted_row, fine_cost, fine_final_limit, fine_stage_limit, fine_limit}
use Rattle.qp_model.proofs.RowLaws.{stage_inside, remainder_inside}
use Rattle.qp_model.proofs.QuantityLaws.{narrow_costs, narrow}
use Rattle.scaled_run.specs.Lists.{Reaches}
use Rattle.scaled_run.proofs.Rooms.{reaches_more, sum_reaches, row_reaches, row_room, input_row_reaches}

same : (n : ℕ) → n ≤ n
same n = omega arith

-- ---- the counted cost rows
-- the stage of one is one of the design, and its sum is narrow
pub counted_stage_in : (d : Design) (c : ℕ) → counted_stage d c ≤ d.stages
counted_stage_in d c = elim (cases_lt c (d.stages * d.stage_costs)) [
  | inl m ↦ rw (lt-ltb c (d.stages * d.stage_costs) m) (stage_inside c d.stages d.stage_costs m)
  | inr m ↦ rw (le-ltb c (d.stages * d.stage_costs) m) (same d.stages)
]

pub counted_slim : (d : Design) (c : ℕ) → c < counts d → size d.states (counted_row d c).coefficient ≤ cost_width d
counted_slim d c l = elim (cases_lt c (d.stages * d.stage_costs)) [
  | inl m ↦ rw (lt-ltb c (d.stages * d.stage_costs) m) ((narrow_costs d).stage (c % d.stage_costs) (remainder_inside c d.stages d.stage_costs m))
  | inr m ↦ rw (le-ltb c (d.stages * d.stage_costs) m) ((narrow_costs d).final (c - d.stages * d.stage_costs) (omega arith))
]

module _ (d : Design) (x v : ℕ → Enclosure) (reach : ℕ) (hs : (k i : ℕ) → k ≤ d.stages → i < d.states → Reaches (fine_run d x v k i) reach)
    (hv : (j : ℕ) → j < entries d → Reaches (v j) reach) where
  pub cost_reaches : (c : ℕ) → c < counts d → Reaches (fine_cost d x v c) (cost_width d * reach)
  cost_reaches c l = row_reaches d x v reach hs hv (counted_row d c).coefficient (cost_width d) (counted_stage d c) (counted_slim d c l) (counted_stage_in d c)

  pub cost_room : (c : ℕ) → c < counts d → combination_magnitude d.states (counted_row d c).coefficient (fine_run d x v (counted_stage d c)) ≤ℤ pos (cost_width d * reach)
  cost_room c l = row_room d x v reach hs hv (counted_row d c).coefficient (cost_width d) (counted_stage d c) (counted_slim d c l) (counted_stage_in d c)

  -- ---- the limit rows
  module _ (k : ℕ) (r : LimitRow) (l : k < d.stages) (h : size d.states r.of_state + size d.inputs r.of_input ≤ limit_width d) where
    before : k ≤ d.stages
    before = omega arith

    -- a stage row at a stage
    pub stage_limit_reaches : Reaches (fine_stage_limit d x v k r) (limit_width d * reach)
    stage_limit_reaches = reaches_more (sum_reaches _ _ _ _ (row_reaches d x v reach hs hv r.of_state _ k (same (size d.states r.of_state)) before)
        (input_row_reaches d x v reach hs hv r.of_input _ k (same (size d.inputs r.of_input)) l))
        (joined (size d.states r.of_state) (size d.inputs r.of_input) (limit_width d) (reach) h)
      where
        joined : (a b w r : ℕ) → a + b ≤ w → a * r + b * r ≤ w * r
        joined a b w r h = omega (arith, mul-le-mul_left r h)

    -- before its two parts are added
    pub stage_limit_room : (magnitude (fine_final_limit d x v k r) +ℤ magnitude (combined d.inputs r.of_input (λ l. v (k * d.inputs + l)) 1)) ≤ℤ pos (limit_width d * reach)
    stage_limit_room = joined _ _ (size d.states r.of_state) (size d.inputs r.of_input) (limit_width d) (reach) h
        (row_reaches d x v reach hs hv r.of_state _ k (same (size d.states r.of_state)) before).within
        (input_row_reaches d x v reach hs hv r.of_input _ k (same (size d.inputs r.of_input)) l).within
      where
        joined : (p q : ℤ) (a b w r : ℕ) → a + b ≤ w → p ≤ℤ pos (a * r) → q ≤ℤ pos (b * r) → (p +ℤ q) ≤ℤ pos (w * r)
        joined p q a b w r h k l = omega (arith, ints, mul-le-mul_left r h)

  pub limit_reaches : (i : ℕ) → i < rows d → Reaches (fine_limit d x v i) (limit_width d * reach)
  limit_reaches i l = elim (cases_lt i (d.stages * d.stage_limits)) [
    | inl m ↦ rw (lt-ltb i (d.stages * d.stage_limits) m) (stage_limit_reaches (i / d.stage_limits) (d.stage_limit (i % d.stage_limits)) (stage_inside i d.stages d.stage_limits m)
        ((narrow d).stage (i % d.stage_limits) (remainder_inside i d.stages d.stage_limits m)))
    | inr m ↦ rw (le-ltb i (d.stages * d.stage_limits) m) (row_reaches d x v reach hs hv (d.final_limit (i - d.stages * d.stage_limits)).of_state (limit_width d) d.stages
        ((narrow d).final (i - d.stages * d.stage_limits) (omega arith)) (same d.stages))
  ]
