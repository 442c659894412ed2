-- What a step of the accelerated machine keeps of what it has made, and so what one more step asks.
use Rattle.std.specs.Prelude.{◌≡◌, ℕ, ◌*◌, ◌≤◌, ◌<◌, ℤ, pos, ◌≤ℤ◌, List, length, unsigned_abs, slice_index_or}
use Rattle.integer_algebra.specs.Sums.{at}
use Rattle.qp_model.specs.machine.Controller.{Numbers}
use Rattle.qp_model.specs.machine.AbsoluteSums.{state_magnitudes, plan_magnitudes}
use Rattle.qp_model.specs.machine.Machine.{IsAdmissible, loaded}
use Rattle.qp_model.specs.machine.Within.{AreWithin}
use Rattle.overflow_check.specs.FastMachine.{FastIterate, all_weights, fast_top, fast_after}
use Rattle.overflow_check.specs.FastController.{IsFastController}

-- at least 0 and at most so much
pub record LiesUpTo (most : ℕ) (x : ℤ) : Type 0 where
  pub low : pos 0 ≤ℤ x
  pub high : unsigned_abs x ≤ most

-- each multiplier is at most the greatest of its row, and what was reached of it before step k at most all weights so far times that
pub record AreFastMultipliers (c : Numbers) (k : ℕ) (multipliers reached : List ℤ) : Type 0 where
  pub multipliers_long : length multipliers ≡ length c.bounds
  pub reached_long : length reached ≡ length c.bounds
  pub own : (i : ℕ) → i < length c.bounds → LiesUpTo (unsigned_abs (fast_top c i)) (at multipliers i)
  pub summed : (i : ℕ) → i < length c.bounds → LiesUpTo (all_weights k * unsigned_abs (fast_top c i)) (at reached i)

-- the sums of the plans before step k are at most all weights so far times the plan's magnitudes
pub record AreFastSums (c : Numbers) (k : ℕ) (sums : List ℤ) : Type 0 where
  pub sums_long : length sums ≡ length c.offsets
  pub each : (j : ℕ) → j < length c.offsets → unsigned_abs (at sums j) ≤ all_weights k * slice_index_or (plan_magnitudes c) j 0

-- what was made before step k
pub record IsFastReady (c : Numbers) (k : ℕ) (made : FastIterate) : Type 0 where
  pub means_long : length made.means ≡ length c.bounds
  pub plan_long : length made.plan ≡ length c.offsets
  pub rows : AreFastMultipliers c k made.multipliers made.reached
  pub entries : AreFastSums c k made.sums

-- what a step stands on: a controller, and a state within its magnitudes
pub record IsFastSetting (c : Numbers) (state : List ℤ) : Type 0 where
  pub sound : IsFastController c
  pub within : AreWithin state (state_magnitudes c)

-- a run keeps all this, from each state of the box
abbrev pub FastReadyLaw : Type 0
FastReadyLaw = (c : Numbers) (xi : List ℤ) → IsFastController c → IsAdmissible c xi → (k : ℕ) → IsFastReady c k (fast_after c (loaded c xi) k)
