-- What a machine makes of a state.
use Rattle.std.specs.Prelude.{◌≡◌, ℕ, ℤ, List}
use Rattle.mac_listing.specs.Listing.{Instructions}
use Rattle.mac_machine.specs.Machine.{NeverTraps}
use Rattle.mac_machine.specs.Box.{IsInBox, IsFirstOutsideBox}
use Rattle.mac_machine.specs.Traps.{Stops}
use Rattle.mac_machine.specs.declared.stop.Stop.TheVariants as stops
use Rattle.plan_lines.specs.Making.{Making}
use Rattle.command_play.specs.Plays.{run_line}
use Rattle.command_line.specs.declared.status.Status.{Status}
use Rattle.command_line.specs.declared.status.Status.TheVariants.{Trap}

-- the run from the state of a record traps, and the status tells where
pub record TrapsFrom (l : Instructions) (entry : ℕ) (xi : List ℤ) (s : Status) : Type 0 where
  pub step : ℕ
  pub place : ℕ
  pub here : Stops l xi (stops.Trap step place)
  pub is : s ≡ Trap entry step place

-- the line of a run in which all values have room
pub record IsRunLine (l : Instructions) (xi : List ℤ) (line : List ℕ) : Type 0 where
  pub room : NeverTraps l xi
  pub is : line ≡ run_line l xi

abbrev pub making_of_runs : Instructions → Making
making_of_runs l = record { holds = IsInBox l; outside = IsFirstOutsideBox l; line = IsRunLine l; stops = TrapsFrom l }
