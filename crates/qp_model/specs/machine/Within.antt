-- Lists whose numbers stay within magnitudes, as the plans of the machine do.
use Rattle.std.specs.Prelude.{◌≡◌, ℕ, ◌≤◌, ℤ, List, length, unsigned_abs, slice_index_or}
use Rattle.integer_algebra.specs.Sums.{at}
use Rattle.qp_model.specs.machine.Controller.{Numbers, IsSized}
use Rattle.qp_model.specs.machine.Machine.{IsAdmissible, loaded, step_of, after}
use Rattle.qp_model.specs.machine.AbsoluteSums.{plan_magnitudes}

-- each number is at most its magnitude in absolute value
pub record AreWithin (xs : List ℤ) (magnitudes : List ℕ) : Type 0 where
  pub long : length xs ≡ length magnitudes
  pub each : (k : ℕ) → unsigned_abs (at xs k) ≤ slice_index_or magnitudes k 0

-- in a run from a grid state of the box, each entry j of the plan that a step makes is at most U_j
abbrev pub PlanMagnitudeLaw : Type 0
PlanMagnitudeLaw = (c : Numbers) (xi : List ℤ) → IsSized c → IsAdmissible c xi → (k : ℕ) →
    AreWithin (step_of c (loaded c xi) (after c (loaded c xi) k)).plan (plan_magnitudes c)
