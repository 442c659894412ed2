-- What a design's targets leave for the bounds.
use Rattle.std.specs.Prelude.{ℕ, ◌*◌, ◌/◌, ◌^◌, ◌<◌, min, unsigned_abs, length, pos, ◌*ℤ◌, ◌≤ℤ◌}
use Rattle.integer_algebra.specs.Sums.{at}
use Rattle.qp_model.specs.bounds.Printed.{Printed}
use Rattle.qp_model.specs.declared.design_parts.DesignParts.{DesignParts}

-- the violation and the gap that the printed bounds are to stay within, over one denominator
pub record Targets : Type 0 where
  pub denominator : ℕ
  pub violation : ℕ
  pub gap : ℕ

abbrev pub targets_of : DesignParts → Targets
targets_of p = record { denominator = unsigned_abs p.target_den; violation = unsigned_abs p.violation; gap = unsigned_abs p.gap }

-- half the target of the violation, over 2^40, rounded down
abbrev pub half_target : Targets → ℕ
half_target t = 2 ^ 39 * t.violation / t.denominator

-- The target of the violation over 2^40, rounded down, and its shares: 15/16 for the steps, and 1/16 for the errors. And the target over 2^16.
abbrev pub violation_target : Targets → ℕ
violation_target t = 2 ^ 40 * t.violation / t.denominator

abbrev pub step_target : Targets → ℕ
step_target t = 15 * 2 ^ 36 * t.violation / t.denominator

abbrev pub rest_target : Targets → ℕ
rest_target t = 2 ^ 36 * t.violation / t.denominator

abbrev pub floor_target : Targets → ℕ
floor_target t = 2 ^ 16 * t.violation / t.denominator

-- the target of the gap, over 2^40, rounded down
abbrev pub gap_target : Targets → ℕ
gap_target t = 2 ^ 40 * t.gap / t.denominator

-- what the errors of a step may cost, over 2^40: the gap's target, and what R times them is half the violation's target
abbrev pub error_limit : Targets → ℕ → ℕ
error_limit t r = min (gap_target t) (r * half_target t)

-- the printed violation, that of all rows and that of each, and the gap, over 2^40, are at most the targets
pub record IsWithinTargets (t : Targets) (b : Printed) : Type 0 where
  pub violation : (b.violation *ℤ pos t.denominator) ≤ℤ (pos (2 ^ 40) *ℤ pos t.violation)
  pub rows : (i : ℕ) → i < length b.row_violations → (at b.row_violations i *ℤ pos t.denominator) ≤ℤ (pos (2 ^ 40) *ℤ pos t.violation)
  pub gap : (b.gap *ℤ pos t.denominator) ≤ℤ (pos (2 ^ 40) *ℤ pos t.gap)
