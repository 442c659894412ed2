-- The bounds of the limit rows, times the unit.
use Rattle.std.proofs.Common.{◌≡◌, ℕ, ◌*◌, ◌^◌, ◌<◌, ◌≤◌, [], ℤ, pos, ◌*ℤ◌, List, unsigned_abs, FitsSigned, to_z, arith, ap, subst, sym, ◌∙◌}
use Rattle.std.specs.Int.{w128}
use Rattle.std.proofs.lemmas.Int.{ints, to_z_pos}
use Rattle.qp_model.specs.declared.design_parts.DesignParts.{DesignParts}
use Rattle.qp_model.specs.problem.Design.{rows}
use Rattle.qp_model.specs.problem.Parts.{design_of}
use Rattle.qp_model.specs.problem.Runs.{bound_at, Holds}
use Rattle.qp_model.specs.form.Quantities.{limit_width}
use Rattle.scaled_condense.specs.Lists.{IsScale}
use Rattle.scaled_condense.proofs.RowRooms.{bound_within}
use Rattle.scaled_condense.proofs.UnitFacts.{over_small}

module _ (p : DesignParts) (m reach : ℕ) (h : IsScale p m reach) where
  pub unit_fits : FitsSigned w128 (pos m)
  unit_fits = fits m (over_small p m reach [] [] 0 h)
    where
      fits : (m : ℕ) → m ≤ 2 ^ 126 → FitsSigned w128 (pos m)
      fits m l = omega (arith, ints, l)

  pub unit_is : to_z w128 m ≡ pos m
  unit_is = to_z_pos w128 m (under (over_small p m reach [] [] 0 h))
    where
      under : {n : ℕ} → n ≤ 2 ^ 126 → n < 2 ^ 127
      under l = omega (arith, l)

  pub bounds_fit : limit_width (design_of p) * reach ≤ 2 ^ 126 → (i : ℕ) → i < rows (design_of p) → unsigned_abs (to_z w128 m) * unsigned_abs (bound_at (design_of p) i) ≤ 2 ^ 126
  bounds_fit room i l = rw unit_is (under (bound_within p m reach h i l) room)
    where
      under : {a b : ℕ} → a ≤ b → b ≤ 2 ^ 126 → a ≤ 2 ^ 126
      under k o = omega (arith, k, o)

  pub bounds_held : (b : List ℤ) → Holds b (rows (design_of p)) (λ i. to_z w128 m *ℤ bound_at (design_of p) i) → Holds b (rows (design_of p)) (λ i. pos m *ℤ bound_at (design_of p) i)
  bounds_held b k = subst (λ (z : ℤ). Holds b (rows (design_of p)) (λ i. z *ℤ bound_at (design_of p) i)) unit_is k
