use Rattle.std.proofs.Common.{◌≡◌, ◌≤◌, ◌^◌, pos}
use Rattle.qp_model.specs.problem.Design.{Design, entries}
use Rattle.qp_model.specs.form.Form.{Form}
use Rattle.qp_model.specs.form.Quantities.{greatest}
use Rattle.plan_excess.specs.Rows.{AreGradientRows}
use Rattle.plan_excess.specs.Slopes.{AreSlopeSums, corner_slope, steepness_at, slope_size_at}
use Rattle.plan_excess.proofs.corners.sums_of.Given as goal

abbrev pub invariant-loop-j : goal.invariant-loop-j
invariant-loop-j l = record {
  made : (d : Design) (h : Form) → AreGradientRows d h (entries d) l.rows → l.corner.grid ≡ pos (2 ^ d.grid) → AreSlopeSums l.j (corner_slope d h l.corner) (steepness_at d h l.corner) l.sums;
  near : (d : Design) (h : Form) → AreGradientRows d h (entries d) l.rows → l.corner.grid ≡ pos (2 ^ d.grid) → greatest l.j (slope_size_at d h l.corner) ≤ 2 ^ 126;
}
