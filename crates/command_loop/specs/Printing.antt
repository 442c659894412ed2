-- What the records of a design, a controller for it and states are answered, on the way.
use Rattle.std.specs.Prelude.{◌≡◌, ◌≢◌, ◌⊎◌, ⊤, ℕ, ◌-◌, ◌^◌, ◌<◌, ◌≤◌, ℤ, List, ◌++◌, length, Option, Some, None, option_map, IfSome, IsSomeAnd}
use Rattle.io_edge.specs.Faults.{Rose}
use Rattle.io_edge.specs.declared.sink.Sink.{Ghosts as Screen}
use Rattle.mat_int.specs.Matrix.{Matrix}
use Rattle.packed_rows.specs.Walk.{Walk}
use Rattle.qp_model.specs.machine.Controller.{Numbers}
use Rattle.qp_model.specs.declared.quantity.Quantity.TheVariants.{Turn}
use Rattle.closed_loop.specs.Answers.{LeavesAmong, MayBegin, GrowsByLines, GrowsByFront}
use Rattle.closed_loop.specs.Under.{AreSmallShifts}
use Rattle.closed_loop.specs.declared.fault.LoopFault.{LoopFault}
use Rattle.closed_loop.specs.declared.fault.LoopFault.TheVariants as faults
use Rattle.command_loop.specs.Loop.{Course, MayPrintLine, LoopsCall, LoopsPrint, TellsLeavingLater}
use Rattle.command_line.specs.declared.status.Status.{Status}
use Rattle.command_line.specs.declared.status.Status.TheVariants.{Done, Memory, WriteFault, Refused, OutsideBox}
use Rattle.qp_model.specs.declared.refusal.Refusal.TheVariants.{TooWide}

-- the status that tells why the loop of a record ended
abbrev pub loop_status : ℕ → LoopFault → Status
loop_status entry faults.Memory = Memory
loop_status entry (faults.TooWide quantity) = Refused (TooWide quantity)
loop_status entry (faults.OutsideBox turn coordinate) = OutsideBox entry turn coordinate
loop_status entry faults.WriteFault = WriteFault 0

-- the rows that a walk goes along, where there is one
abbrev pub rows_along : Option Walk → Option Matrix
rows_along None = None
rows_along (Some walk) = Some walk.rows

-- shifts of n coordinates after each of so many turns, or none
pub record AreRowsFor (n turns : ℕ) (shifts : Matrix) : Type 0 where
  pub cols : shifts.cols ≡ n
  pub rows : length shifts.rows ≡ turns
  pub small : AreSmallShifts shifts

abbrev pub AreShiftsFor : (n turns : ℕ) → Option Matrix → Type 0
AreShiftsFor n turns None = ⊤
AreShiftsFor n turns (Some shifts) = AreRowsFor n turns shifts

-- what the loop of a record shows that ended early: what the output had and has
abbrev pub RecordShows : (size : ℕ) → Numbers → Course → (entry : ℕ) → (start : List ℤ) → (turns : ℕ) → (old new : Option (List ℕ)) → LoopFault → Type 0
RecordShows size c l entry start turns old new faults.Memory =
    (size ≤ 2 ^ 126) × IfSome old (λ o. IsSomeAnd new (GrowsByLines c (l.states start) (l.lines entry start) turns o))
RecordShows size c l entry start turns old new (faults.TooWide quantity) = (quantity ≡ Turn) × (2 ^ 126 < size) × (new ≡ old)
RecordShows size c l entry start turns old new (faults.OutsideBox turn coordinate) =
    (size ≤ 2 ^ 126) × LeavesAmong c (l.states start) turns turn coordinate × (new ≡ option_map (λ o. o ++ l.lines entry start (turn - 1)) old)
RecordShows size c l entry start turns old new faults.WriteFault =
    (size ≤ 2 ^ 126) × IfSome old (λ o. IsSomeAnd new (GrowsByFront c (l.states start) (l.lines entry start) turns o)) × MayBegin c (l.states start) turns

-- it ended before any of its lines
abbrev pub IsBeforeLines : LoopFault → Type 0
IsBeforeLines faults.Memory = ⊥
IsBeforeLines (faults.TooWide quantity) = ⊤
IsBeforeLines (faults.OutsideBox turn coordinate) = turn ≡ 1
IsBeforeLines faults.WriteFault = ⊥

-- out of memory, or a print of a line failed, or what is called for
abbrev pub LoopsEnd : (size : ℕ) → Numbers → Course → (turns : ℕ) → Matrix → Status → Type 0
LoopsEnd size c l turns m s = (s ≡ Memory) ⊎ (((s ≡ WriteFault 0) × MayPrintLine size c l turns m) ⊎ LoopsCall size c l turns m s)

-- with what the output had and has, and its counts of faults
pub record LoopsDone {O : Type 0} (screen : Screen O) (size : ℕ) (c : Numbers) (l : Course) (turns : ℕ) (m : Matrix) (out now : O) (s : Status) : Type 0 where
  pub ends : LoopsEnd size c l turns m s
  pub printed : IfSome (screen.got out) (λ old. IsSomeAnd (screen.got now) (LoopsPrint size c l turns m s old))
  pub quiet : s ≢ Done → s ≢ Memory → s ≢ WriteFault 0 → ¬ TellsLeavingLater s → now ≡ out
  pub failed : s ≡ WriteFault 0 → Rose (screen.faults out) (screen.faults now)
  pub no_fewer : screen.faults out ≤ screen.faults now
