-- What a listing with states is answered, and what the output gets, on the way.
use Rattle.std.specs.Prelude.{◌≡◌, ◌≢◌, ◌⊎◌, ℕ, ◌<◌, ◌≤◌, List, ◌++◌, length}
use Rattle.io_edge.specs.Faults.{GrowsByPart}
use Rattle.mat_int.specs.Matrix.{Matrix, row_of}
use Rattle.mac_listing.specs.Listing.{Instructions}
use Rattle.mac_machine.specs.Machine.{NeverTraps}
use Rattle.command_play.specs.Plays.{AreInBox, HaveRunRoom, IsTrapped, run_lines}
use Rattle.command_line.specs.declared.status.Status.{Status}
use Rattle.command_line.specs.declared.status.Status.TheVariants.{Done, Memory, WriteFault, Trap}

-- a line may be printed: there is a state, all lie in the box, and the first run has room
pub record MayPrint (l : Instructions) (states : Matrix) : Type 0 where
  pub inside : AreInBox l states (length states.rows)
  pub some : 0 < length states.rows
  pub room : NeverTraps l (row_of states 0)

-- ---- what the output gets
-- the status tells of a trap
abbrev pub TellsTrap : Status → Type 0
TellsTrap s = (entry : ℕ) × (step : ℕ) × (place : ℕ) × (s ≡ Trap entry step place)

-- it did so after a line: of a record before
abbrev pub TellsTrapLater : Status → Type 0
TellsTrapLater s = (entry : ℕ) × (step : ℕ) × (place : ℕ) × (s ≡ Trap entry step place) × (1 < entry)

-- the lines of the states before the one whose run traps
pub record AreToTrap (l : Instructions) (states : Matrix) (s : Status) (old new : List ℕ) : Type 0 where
  pub trapped : IsTrapped l states s
  pub printed : new ≡ old ++ run_lines l states trapped.index

-- the lines of some first states were printed so
pub record AreSome (l : Instructions) (states : Matrix) (Printed : (lines : List ℕ) → Type 0) : Type 0 where
  pub count : ℕ
  pub some : count ≤ length states.rows
  pub room : HaveRunRoom l states count
  pub printed : Printed (run_lines l states count)

-- by the answer; a line only where all states lie in the box
pub record PlaysPrint (l : Instructions) (states : Matrix) (s : Status) (old new : List ℕ) : Type 0 where
  pub done : s ≡ Done → AreInBox l states (length states.rows) × HaveRunRoom l states (length states.rows) × (new ≡ old ++ run_lines l states (length states.rows))
  pub trap : TellsTrap s → AreInBox l states (length states.rows) × AreToTrap l states s old new
  pub fault : s ≡ WriteFault 0 → AreInBox l states (length states.rows) × AreSome l states (GrowsByPart old new)
  pub memory : s ≡ Memory → (new ≡ old) ⊎ (AreInBox l states (length states.rows) × AreSome l states (λ lines. new ≡ old ++ lines))
  pub other : s ≢ Done → (TellsTrap s → ⊥) → s ≢ WriteFault 0 → s ≢ Memory → new ≡ old
