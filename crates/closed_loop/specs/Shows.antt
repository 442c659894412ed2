-- What a refusal of a turn, and of a loop, shows.
use Rattle.std.specs.Prelude.{◌≡◌, ◌⊎◌, ◌↔◌, ℕ, ◌-◌, ◌^◌, ◌<◌, ◌≤◌, ℤ, List, ◌++◌, Option, option_map, IfSome, IsSomeAnd, Result, Err, OnOk, IsOk}
use Rattle.io_edge.specs.Faults.{Rose, GrowsByPart}
use Rattle.qp_model.specs.declared.quantity.Quantity.{Quantity}
use Rattle.qp_model.specs.declared.quantity.Quantity.TheVariants.{Turn}
use Rattle.qp_model.specs.machine.Controller.{Numbers}
use Rattle.qp_model.specs.machine.Machine.{IsAdmissible}
use Rattle.fixed_kernel.specs.Outside.{IsFirstOutside}
use Rattle.closed_loop.specs.Looping.{Looping, line_by}
use Rattle.closed_loop.specs.Answers.{LieInside, LeavesAmong, MayBegin, GrowsByLines, GrowsByFront}
use Rattle.closed_loop.specs.declared.fault.LoopFault.{LoopFault}
use Rattle.closed_loop.specs.declared.fault.LoopFault.TheVariants.{Memory, TooWide, OutsideBox, WriteFault}

-- of a turn at a state: what the sink had and has, and its counts of faults
abbrev pub TurnShows : Looping → (entry turn : ℕ) → List ℤ → (old new : Option (List ℕ)) → (before now : ℕ) → LoopFault → Type 0
TurnShows l entry turn xi old new before now Memory = IsAdmissible l.controller xi × (new ≡ old)
TurnShows l entry turn xi old new before now (TooWide quantity) = ⊥
TurnShows l entry turn xi old new before now (OutsideBox at coordinate) = (at ≡ turn) × IsFirstOutside l.controller xi coordinate × (new ≡ old)
TurnShows l entry turn xi old new before now WriteFault =
    IsAdmissible l.controller xi × IfSome old (λ o. IsSomeAnd new (λ n. GrowsByPart o n (line_by l entry turn xi))) × Rose before now

-- of a loop with these states and lines: after out of memory the lines of some first turns were printed, at a state outside the box those of all turns
-- before it, and after a fault of the sink a part of the lines that isn't all of them, of which there may be one
abbrev pub LoopShows : Numbers → (states : ℕ → List ℤ) → (lines : ℕ → List ℕ) → (turns : ℕ) → (old new : Option (List ℕ)) → (before now : ℕ) → LoopFault → Type 0
LoopShows c states lines turns old new before now Memory = IfSome old (λ o. IsSomeAnd new (GrowsByLines c states lines turns o))
LoopShows c states lines turns old new before now (TooWide quantity) = ⊥
LoopShows c states lines turns old new before now (OutsideBox turn coordinate) =
    LeavesAmong c states turns turn coordinate × (new ≡ option_map (λ o. o ++ lines (turn - 1)) old)
LoopShows c states lines turns old new before now WriteFault =
    IfSome old (λ o. IsSomeAnd new (GrowsByFront c states lines turns o)) × Rose before now × MayBegin c states turns

-- what a loop of a controller with these states and lines, of so many turns and numbers of this size, answers, by what the sink had and has, its counts of
-- faults, and whether the sink is left alone
pub record LoopEnds (c : Numbers) (states : ℕ → List ℤ) (lines : ℕ → List ℕ) (turns size : ℕ) (old new : Option (List ℕ)) (before now : ℕ) (Untouched : Type 0)
    (r : Result (Unit {0}) LoopFault) : Type 0 where
  -- all turns were made
  pub inside : OnOk r (LieInside c states turns)
  pub put : OnOk r (new ≡ option_map (λ o. o ++ lines turns) old)
  -- the quantity `turn`, before any line
  pub wide : (quantity : Quantity) → (r ≡ Err (TooWide quantity)) ↔ ((quantity ≡ Turn) × (2 ^ 126 < size))
  pub wide_put : 2 ^ 126 < size → Untouched
  -- a state outside the box; where that is the first state, nothing was put
  pub outside : (turn coordinate : ℕ) → r ≡ Err (OutsideBox turn coordinate) → LeavesAmong c states turns turn coordinate
  pub outside_put : (turn coordinate : ℕ) → r ≡ Err (OutsideBox turn coordinate) → new ≡ option_map (λ o. o ++ lines (turn - 1)) old
  pub quiet : (coordinate : ℕ) → r ≡ Err (OutsideBox 1 coordinate) → Untouched
  pub leaves : (turn coordinate : ℕ) → LeavesAmong c states turns turn coordinate → size ≤ 2 ^ 126 →
      (r ≡ Err (OutsideBox turn coordinate)) ⊎ (r ≡ Err Memory) ⊎ (r ≡ Err WriteFault)
  -- it doesn't give up
  pub stays : LieInside c states turns → size ≤ 2 ^ 126 → ¬ Rose before now → IsOk r ⊎ (r ≡ Err Memory)
  -- a fault of the sink
  pub failed : r ≡ Err WriteFault → Rose before now
  pub begun : r ≡ Err WriteFault → MayBegin c states turns
  pub cut : r ≡ Err WriteFault → IfSome old (λ o. IsSomeAnd new (GrowsByFront c states lines turns o))
  -- out of memory
  pub memory : r ≡ Err Memory → IfSome old (λ o. IsSomeAnd new (GrowsByLines c states lines turns o))
