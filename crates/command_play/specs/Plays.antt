-- The runs of a listing from states: which lie in its box, which run traps first, and the lines of those that don't.
use Rattle.std.specs.Prelude.{◌≡◌, ◌⊎◌, ℕ, ◌+◌, ◌<◌, ℤ, List, length, take}
use Rattle.std.specs.List.{flat_map}
use Rattle.mat_int.specs.Matrix.{Matrix, row_of}
use Rattle.mac_listing.specs.Listing.{Instructions}
use Rattle.mac_machine.specs.Machine.{NeverTraps, after_repetitions, play_line}
use Rattle.mac_machine.specs.Box.{IsInBox, IsFirstOutsideBox}
use Rattle.mac_machine.specs.Traps.{Stops}
use Rattle.mac_machine.specs.declared.stop.Stop.TheVariants as stops
use Rattle.plan_lines.specs.Inside.{IsFirstOut}
use Rattle.command_line.specs.declared.status.Status.{Status}
use Rattle.command_line.specs.declared.status.Status.TheVariants.{Done, Trap}

-- ---- states
-- each of the first k states lies in the listing's box
abbrev pub AreInBox : Instructions → Matrix → ℕ → Type 0
AreInBox l states k = (e : ℕ) → e < k → IsInBox l (row_of states e)

-- from each of the first k states all values of the run have room
abbrev pub HaveRunRoom : Instructions → Matrix → ℕ → Type 0
HaveRunRoom l states k = (e : ℕ) → e < k → NeverTraps l (row_of states e)

-- the state of a record is the first that lies outside the box, and the status tells which, and its first coordinate outside
abbrev pub IsOutsideBox : Instructions → Matrix → Status → Type 0
IsOutsideBox l states s = IsFirstOut (λ e. IsInBox l (row_of states e)) (λ e. IsFirstOutsideBox l (row_of states e)) (length states.rows) s

-- the run from the state of a record is the first in which a value has no room, and the status tells which, and where
pub record IsTrapped (l : Instructions) (states : Matrix) (s : Status) : Type 0 where
  pub index : ℕ
  pub step : ℕ
  pub place : ℕ
  pub there : index < length states.rows
  pub before : HaveRunRoom l states index
  pub here : Stops l (row_of states index) (stops.Trap step place)
  pub is : s ≡ Trap (index + 1) step place

-- what a listing and states call for: the first state outside the box is told, or the first trap, or all lines are printed
abbrev pub PlaysCall : Instructions → Matrix → Status → Type 0
PlaysCall l states s =
    IsOutsideBox l states s ⊎ (AreInBox l states (length states.rows) × (IsTrapped l states s ⊎ ((s ≡ Done) × HaveRunRoom l states (length states.rows))))

-- ---- lines
-- what the run from a state puts out, on a line
abbrev pub run_line : Instructions → List ℤ → List ℕ
run_line l xi = play_line l (after_repetitions l xi l.repetitions).words

-- those of the first k states, in order
abbrev pub run_lines : Instructions → Matrix → ℕ → List ℕ
run_lines l states k = flat_map (run_line l) (take k states.rows)
