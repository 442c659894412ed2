-- How many rows a design has, and that its numbers are small.
use Rattle.std.proofs.Common.{◌≡◌, ℕ, ◌+◌, ◌*◌, ◌^◌, ◌<◌, ◌≤◌, ℤ, pos, ◌*ℤ◌, List, length, arith, refl}
use Rattle.std.specs.Prelude.{unsigned_abs}
use Rattle.std.proofs.lemmas.Int.{ints}
use Rattle.qp_model.specs.declared.design_parts.DesignParts.{DesignParts}
use Rattle.qp_model.specs.problem.Parts.{design_of, IsDesign}
use Rattle.qp_model.specs.problem.Runs.{counts, Holds}
use Rattle.qp_model.proofs.CountLaws.{counted_all}
use Rattle.qp_model.proofs.TableLaws.{entry_small}
use Rattle.condensed_form.specs.Costs.{weight_of}
use Rattle.condensed_form.proofs.Pushes.{holds_to}
use Rattle.condensed_form.proofs.RowFacts.{stages_room}

-- a design has few counted cost rows
pub costs_few : (p : DesignParts) → IsDesign p → counts (design_of p) ≤ 372
costs_few p h = omega (arith, stages_room p h (length p.stage_cost.rows) h.stage_cost.rows.1, h.final_cost.rows.1)

-- a weight times 1 is small
pub weight_room : (p : DesignParts) → IsDesign p → (c : ℕ) → c < counts (design_of p) → 1 * unsigned_abs (weight_of (design_of p) c) ≤ 2 ^ 126
weight_room p h c l = omega (arith, small)
  where
    small : unsigned_abs (weight_of (design_of p) c) < 2 ^ 31
    small = counted_all (design_of p) (λ k r. r.weight) (λ z. unsigned_abs z < 2 ^ 31) (λ k r m o. entry_small p.stage_cost r (p.states + 1) h.stage_cost.numbers o)
        (λ r o. entry_small p.final_cost r (p.states + 1) h.final_cost.numbers o) c l

-- a list of numbers times 1 is one of the numbers
pub once : (xs : List ℤ) (n : ℕ) (f : ℕ → ℤ) → Holds xs n (λ i. pos 1 *ℤ f i) → Holds xs n f
once xs n f h = holds_to xs n n (λ i. pos 1 *ℤ f i) f h refl (λ i l. one (f i))
  where
    one : (z : ℤ) → pos 1 *ℤ z ≡ z
    one z = omega (arith, ints)
