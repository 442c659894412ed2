-- What runs in words of 64 bits are made with is a controller's.
use Rattle.std.specs.Prelude.{◌≡◌, ℤ, List, IsTrue, length}
use Rattle.qp_model.specs.machine.Controller.{Numbers}
use Rattle.qp_model.specs.machine.AbsoluteSums.{state_magnitudes, IsController}
use Rattle.qp_model.specs.machine.Within.{AreWithin}
use Rattle.overflow_check.specs.FastController.{with_last_version}
use Rattle.fixed_kernel.specs.WordForm.{IsWordSized, HasHalfFactors}
use Rattle.fixed_kernel.specs.declared.word_machine.WordForm.{WordForm}
use Rattle.fixed_kernel.specs.declared.word_machine.WordRoom.{WordRoom}
use Rattle.fixed_kernel.specs.declared.word_machine.WordMachine.{WordMachine}

-- its matrices and its clamp, and its factors fit half a word where it says so
pub record IsWordFormOf (c : Numbers) (w : WordForm) : Type 0 where
  pub gains : w.gains ≡ c.dual_gains
  pub rows : w.rows ≡ c.plan_rows
  pub top : w.top ≡ c.clamp
  pub half : IsTrue w.half → HasHalfFactors c

-- what a step in such words stands on: a controller of such a size, its matrices and its clamp, and a state within its reaches
pub record IsWordSetting (c : Numbers) (w : WordForm) (xs : List ℤ) : Type 0 where
  pub sound : IsController c
  pub sized : IsWordSized c
  pub form : IsWordFormOf c w
  pub state : AreWithin xs (state_magnitudes c)

-- what a plan and a row's sum in such words stand on, of a controller of either machine
pub record IsWordSumSetting (c : Numbers) (w : WordForm) (xs : List ℤ) : Type 0 where
  pub sound : IsController (with_last_version c)
  pub sized : IsWordSized c
  pub form : IsWordFormOf c w
  pub state : AreWithin xs (state_magnitudes c)

-- a word for each entry and each row
pub record IsRoomFor (c : Numbers) (r : WordRoom) : Type 0 where
  pub entry_starts : length r.entry_starts.items ≡ length c.offsets
  pub row_starts : length r.row_starts.items ≡ length c.bounds
  pub multipliers : length r.multipliers.items ≡ length c.bounds
  pub plan : length r.plan.items ≡ length c.offsets
  pub sums : length r.sums.items ≡ length c.offsets

-- both, of a controller whose steps are made in such words
pub record IsMachineOf (c : Numbers) (m : WordMachine) : Type 0 where
  pub sized : IsWordSized c
  pub form : IsWordFormOf c m.form
  pub room : IsRoomFor c m.room
