-- Each value that the accelerated machine meets in a run: every product, every partial sum, each value before and after a floor, and the sums.
use Rattle.std.specs.Prelude.{ℕ, ◌^◌, ◌<◌, ℤ, pos, ◌+ℤ◌, ◌*ℤ◌, List, [], ◌∷◌, ◌++◌, length, All}
use Rattle.integer_algebra.specs.Division.{floor_of}
use Rattle.integer_algebra.specs.Sums.{at}
use Rattle.mat_int.specs.Row.{list_dot}
use Rattle.mat_int.specs.Matrix.{row_of}
use Rattle.qp_model.specs.machine.Controller.{Numbers}
use Rattle.qp_model.specs.machine.Machine.{IsAdmissible, loaded, row_sum}
use Rattle.qp_model.specs.machine.ValuesMet.{products, partial_sums, entry_values, FitsWidth}
use Rattle.overflow_check.specs.FastMachine.{FastIterate, step_weight, fast_top, mean_at, means_of, moved_multiplier, fast_step, fast_after}
use Rattle.overflow_check.specs.FastController.{IsFastController}

-- the values that mean i of step k is made of
abbrev pub mean_values : Numbers → ℕ → FastIterate → ℕ → List ℤ
mean_values c k made i =
    let times = pos (step_weight k) *ℤ at made.multipliers i in
    at made.multipliers i ∷ at made.reached i ∷ times ∷ (at made.reached i +ℤ times)
    ∷ mean_at k made.multipliers made.reached i ∷ at (means_of c k made.multipliers made.reached) i ∷ []

-- the values that multiplier i is moved by, and added to those reached
abbrev pub moved_values : Numbers → (state plan : List ℤ) → ℕ → FastIterate → ℕ → List ℤ
moved_values c state plan k made i =
    let planned = products (row_of c.plan_rows i) plan in
    let own = products (row_of c.state_rows i) state in
    let residual = floor_of (row_sum c state plan i) (2 ^ c.fraction_bits) in
    let times = pos (step_weight k) *ℤ residual in
    let moved = moved_multiplier c state plan (step_weight k) (at made.multipliers i) i in
    planned ++ partial_sums (pos 0) planned ++ own ++ partial_sums (pos 0) own ++ partial_sums (list_dot (row_of c.plan_rows i) plan) own
    ++ (at c.bounds i *ℤ pos (2 ^ c.fraction_bits)) ∷ row_sum c state plan i ∷ residual ∷ times ∷ (at made.multipliers i +ℤ times)
    ∷ c.clamp ∷ (pos 2 *ℤ c.clamp) ∷ fast_top c i ∷ moved ∷ (pos (step_weight k) *ℤ moved) ∷ (at made.reached i +ℤ pos (step_weight k) *ℤ moved) ∷ []

-- each value of step k fits
pub record FastStepFits (w : ℕ) (c : Numbers) (state : List ℤ) (k : ℕ) (made : FastIterate) : Type 0 where
  pub means : (i : ℕ) → i < length c.bounds → All (FitsWidth w) (mean_values c k made i)
  pub entries : (j : ℕ) → j < length c.offsets → All (FitsWidth w) (entry_values c state (means_of c k made.multipliers made.reached) j)
  pub rows : (i : ℕ) → i < length c.bounds → All (FitsWidth w) (moved_values c state (fast_step c state k made).plan k made i)
  pub sums : (j : ℕ) → j < length c.offsets →
      All (FitsWidth w) ((pos (step_weight k) *ℤ at (fast_step c state k made).plan j) ∷ at (fast_step c state k made).sums j ∷ [])

-- each value of a run fits, the loaded state too
pub record FastRunFits (w : ℕ) (c : Numbers) (xi : List ℤ) : Type 0 where
  pub state : All (FitsWidth w) (loaded c xi)
  pub steps : (k : ℕ) → k < c.steps → FastStepFits w c (loaded c xi) k (fast_after c (loaded c xi) k)

-- no value that a controller's machine meets in a run from a state of its box leaves its width
abbrev pub FastValuesLaw : Type 0
FastValuesLaw = (c : Numbers) (xi : List ℤ) → IsFastController c → IsAdmissible c xi → FastRunFits c.width c xi
