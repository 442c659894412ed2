-- The controllers of cells.
use Rattle.std.specs.Prelude.{◌≡◌, ℕ, ◌<◌, ◌≤◌, List, length, All, get_or}
use Rattle.qp_model.specs.machine.Controller.{Numbers, FitsWord}
use Rattle.controller_text.specs.TextForm.{IsTextForm}

-- what all controllers of one text share
pub record AreAlike (c d : Numbers) : Type 0 where
  pub states : c.states ≡ d.states
  pub inputs : c.inputs ≡ d.inputs
  pub stages : c.stages ≡ d.stages
  pub grid : c.grid_bits ≡ d.grid_bits

-- the numbers of 1 to 64 controllers' texts, each of any version and like the first, with their shapes and ranges; nothing is said of their sums
pub record AreCells (cells : List Numbers) : Type 0 where
  pub some : 1 ≤ length cells
  pub few : length cells ≤ 64
  pub form : All IsTextForm cells
  pub word : All FitsWord cells
  pub alike : (i : ℕ) (c : Numbers) → i < length cells → AreAlike (get_or cells 0 c) (get_or cells i c)
