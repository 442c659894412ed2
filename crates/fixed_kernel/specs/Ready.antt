-- What one more step asks of a kernel and of its words.
use Rattle.std.specs.Prelude.{◌≡◌, ℕ, ◌+◌, ◌^◌, ◌≤◌, ◌<◌, ℤ, List, Bool, IsTrue, length, unsigned_abs, slice_index_or}
use Rattle.integer_algebra.specs.Sums.{at}
use Rattle.qp_model.specs.machine.Controller.{Numbers}
use Rattle.qp_model.specs.machine.Machine.{Iterate}
use Rattle.qp_model.specs.machine.AbsoluteSums.{state_magnitudes, clamp_magnitudes, plan_magnitudes, IsController}
use Rattle.qp_model.specs.machine.Within.{AreWithin}
use Rattle.fixed_kernel.specs.Factors.{HasNarrowFactors}

-- what a step stands on: a controller, whose factors are narrow where it says so, and a state within its reaches
pub record IsStepSetting (c : Numbers) (told : Bool) (xs : List ℤ) : Type 0 where
  pub sound : IsController c
  pub narrow : IsTrue told → HasNarrowFactors c
  pub state : AreWithin xs (state_magnitudes c)

-- the multipliers, which are raised there, are within their reaches, and the sums leave room for one more plan
pub record IsReadyToStep (c : Numbers) (made : Iterate) : Type 0 where
  pub multipliers_within : AreWithin made.multipliers (clamp_magnitudes c)
  pub plan_long : length made.plan ≡ length c.offsets
  pub sums_long : length made.sums ≡ length c.offsets
  pub room : (k : ℕ) → k < length c.offsets → unsigned_abs (at made.sums k) + slice_index_or (plan_magnitudes c) k 0 ≤ 2 ^ 126
