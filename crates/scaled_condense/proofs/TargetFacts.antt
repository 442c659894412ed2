-- The targets of the counted cost rows over a unit.
use Rattle.std.proofs.Common.{◌≡◌, inl, inr, ℕ, ◌*◌, ◌^◌, ◌<◌, ◌≤◌, ℤ, unsigned_abs, arith, refl}
use Rattle.std.proofs.lemmas.Bool.{cases_lt, lt-ltb, le-ltb}
use Rattle.std.proofs.Math.Nat.{mul-le-mul}
use Rattle.qp_model.specs.problem.Design.{Design, CostRow}
use Rattle.qp_model.specs.form.Quantities.{cost_width}
use Rattle.qp_model.specs.problem.Runs.{counted, counts}
use Rattle.qp_model.specs.form.FineForm.{counted_row}
use Rattle.qp_model.proofs.QuantityLaws.{target_width}

-- a number of a counted row
pub counted_at : (d : Design) (f : CostRow → ℤ) (c : ℕ) → counted d (λ k r. f r) c ≡ f (counted_row d c)
counted_at d f c = elim (cases_lt c (d.stages * d.stage_costs)) [
  | inl m ↦ rw (lt-ltb c (d.stages * d.stage_costs) m) refl
  | inr m ↦ rw (le-ltb c (d.stages * d.stage_costs) m) refl
]

-- a target over the unit is within what the rows reach
pub target_room : (d : Design) (m reach c : ℕ) → c < counts d → m ≤ reach → cost_width d * reach ≤ 2 ^ 126 → m * unsigned_abs (counted d (λ k r. r.target) c) ≤ 2 ^ 126
target_room d m reach c l h k = last _ _ (mul-le-mul h (target_width d c l)) k
  where
    last : (x w : ℕ) → x ≤ reach * w → w * reach ≤ 2 ^ 126 → x ≤ 2 ^ 126
    last x w h k = omega (arith, h, k)
