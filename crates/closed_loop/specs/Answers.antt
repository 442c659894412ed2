-- What a closed loop meets and puts, by its states turn by turn and the lines of its first turns.
use Rattle.std.specs.Prelude.{◌≡◌, ℕ, ◌+◌, ◌≤◌, ◌<◌, ℤ, List, ◌++◌}
use Rattle.io_edge.specs.Faults.{IsProperPrefix}
use Rattle.qp_model.specs.machine.Controller.{Numbers}
use Rattle.qp_model.specs.machine.Machine.{IsAdmissible}
use Rattle.fixed_kernel.specs.Outside.{IsFirstOutside}

-- those of the first turns lie in the box
pub record LieInside (c : Numbers) (states : ℕ → List ℤ) (turns : ℕ) : Type 0 where
  pub each : (k : ℕ) → k < turns → IsAdmissible c (states k)

-- among so many turns, the state of this one, counted from 1, is the first outside the box, and this coordinate its first
pub record LeavesAmong (c : Numbers) (states : ℕ → List ℤ) (turns turn coordinate : ℕ) : Type 0 where
  pub gone : ℕ
  pub is : turn ≡ gone + 1
  pub within : turn ≤ turns
  pub before : LieInside c states gone
  pub outside : IsFirstOutside c (states gone) coordinate

-- a line may be put: there is a turn, and the state of the first lies in the box
pub record MayBegin (c : Numbers) (states : ℕ → List ℤ) (turns : ℕ) : Type 0 where
  pub some : 0 < turns
  pub inside : LieInside c states 1

-- what a sink got grew by the lines of some first turns, whose states lie in the box
pub record GrowsByLines (c : Numbers) (states : ℕ → List ℤ) (lines : ℕ → List ℕ) (turns : ℕ) (old new : List ℕ) : Type 0 where
  pub done : ℕ
  pub within : done ≤ turns
  pub inside : LieInside c states done
  pub grown : new ≡ old ++ lines done

-- the same, where the last line is cut off: a part of these lines, and not all of them
pub record GrowsByFront (c : Numbers) (states : ℕ → List ℤ) (lines : ℕ → List ℕ) (turns : ℕ) (old new : List ℕ) : Type 0 where
  pub done : ℕ
  pub within : done ≤ turns
  pub inside : LieInside c states done
  pub part : List ℕ
  pub proper : IsProperPrefix (lines done) part
  pub grown : new ≡ old ++ part
