-- A run of the accelerated machine in words of 64 bits.
use Rattle.std.specs.Prelude.{◌≡◌, ℤ, List, length}
use Rattle.qp_model.specs.machine.Controller.{Numbers}
use Rattle.qp_model.specs.machine.AbsoluteSums.{state_magnitudes}
use Rattle.qp_model.specs.machine.Within.{AreWithin}
use Rattle.overflow_check.specs.FastController.{IsFastController}
use Rattle.fixed_kernel.specs.WordForm.{IsWordSized, entry_bases, row_bases}
use Rattle.fixed_kernel.specs.WordMachine.{IsWordFormOf, IsMachineOf}
use Rattle.fixed_kernel.specs.declared.word_machine.WordForm.{WordForm}
use Rattle.fast_machine.specs.declared.word_machine.FastWords.{FastWords}

-- what a step in such words stands on: a controller of such a size, its matrices and its clamp, and a state within its magnitudes
pub record IsFastWordSetting (c : Numbers) (w : WordForm) (xs : List ℤ) : Type 0 where
  pub sound : IsFastController c
  pub sized : IsWordSized c
  pub form : IsWordFormOf c w
  pub state : AreWithin xs (state_magnitudes c)

-- what the state adds to each sum, made once a run
pub record AreBases (c : Numbers) (state entry_starts row_starts : List ℤ) : Type 0 where
  pub entries : entry_starts ≡ entry_bases c state
  pub rows : row_starts ≡ row_bases c state

-- what runs in such words are made with is a controller's
pub record IsFastMachineOf (c : Numbers) (m : FastWords) : Type 0 where
  pub machine : IsMachineOf c m.machine
  pub means : length m.means.items ≡ length c.bounds
  pub reached : length m.reached.items ≡ length c.bounds
