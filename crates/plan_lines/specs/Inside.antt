-- Which states lie in a box.
use Rattle.std.specs.Prelude.{◌≡◌, ℕ, ◌+◌, ◌<◌}
use Rattle.mat_int.specs.Matrix.{Matrix, row_of}
use Rattle.qp_model.specs.machine.Controller.{Numbers}
use Rattle.qp_model.specs.machine.Machine.{IsAdmissible}
use Rattle.command_line.specs.declared.status.Status.{Status}
use Rattle.command_line.specs.declared.status.Status.TheVariants.{OutsideBox}

-- each of the first k states does
abbrev pub AreHeld : (Held : ℕ → Type 0) → ℕ → Type 0
AreHeld Held k = (e : ℕ) → e < k → Held e

-- the state of a record is the first that doesn't, and the status tells which, and its first coordinate outside
pub record IsFirstOut (Held : ℕ → Type 0) (Out : (e coordinate : ℕ) → Type 0) (rows : ℕ) (s : Status) : Type 0 where
  pub index : ℕ
  pub coordinate : ℕ
  pub there : index < rows
  pub before : AreHeld Held index
  pub here : Out index coordinate
  pub is : s ≡ OutsideBox (index + 1) 0 coordinate

-- each of the first k states lies in the controller's box
abbrev pub AreInside : Numbers → Matrix → ℕ → Type 0
AreInside c states k = AreHeld (λ e. IsAdmissible c (row_of states e)) k
