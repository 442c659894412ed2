-- Rows of runs fit.
use Rattle.std.proofs.Common.{ℕ, ◌*◌, ◌≤◌, arith, Bool, true, false, if◌then◌else◌, ◌==◌}
use Rattle.qp_model.specs.declared.design_parts.DesignParts.{DesignParts}
use Rattle.qp_model.specs.problem.Parts.{IsDesign}
use Rattle.std.proofs.Math.Nat.{mul-le-mul_left}

-- a design's stages have few rows in all
pub stages_room : (p : DesignParts) → IsDesign p → (r : ℕ) → r ≤ 12 → p.stages * r ≤ 360
stages_room p h r l = last p.stages r (few (p.version == 1) p.stages h.stages.1) l
  where
    few : (b : Bool) (s : ℕ) → s ≤ (if b then 20 else 30) → s ≤ 30
    few true s h = omega (arith, h)
    few false s h = h

    last : (s r : ℕ) → s ≤ 30 → r ≤ 12 → s * r ≤ 360
    last s r h l = omega (arith, mul-le-mul_left s l, h)
