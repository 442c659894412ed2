-- What `loop` does with its files.
use Rattle.std.specs.Prelude.{◌≡◌, ◌≢◌, ◌⊎◌, ℕ, zero, suc, ◌+◌, ◌-◌, ◌^◌, ◌<◌, ◌≤◌, ℤ, Bool, true, false, List, [], ◌++◌, length, Option, Some, None}
use Rattle.io_edge.specs.Faults.{IsProperPrefix}
use Rattle.mat_int.specs.Matrix.{Matrix, row_of}
use Rattle.qp_model.specs.problem.Design.{Design}
use Rattle.qp_model.specs.machine.Controller.{Numbers}
use Rattle.qp_model.specs.machine.Successor.{state_after}
use Rattle.qp_model.specs.machine.LoopSize.{turn_size}
use Rattle.qp_model.specs.text.LoopLines.{loop_text}
use Rattle.qp_model.specs.declared.quantity.Quantity.TheVariants.{Turn}
use Rattle.controller_file.specs.AnyText.{any_numbers}
use Rattle.controller_file.specs.declared.any_controller.AnyController.{AnyController}
use Rattle.controller_file.specs.declared.any_controller.AnyController.TheVariants.{Plain, Fast}
use Rattle.closed_loop.specs.Looping.{Looping, looping_of_fast, turn_size_by}
use Rattle.closed_loop.specs.Answers.{LieInside, LeavesAmong}
use Rattle.closed_loop.specs.Under.{states_under, lines_under, states_by, lines_by, unshifted_by, unshifted_lines_by}
use Rattle.command_line.specs.Deeds.{Deeds}
use Rattle.command_line.specs.Script.{Act, Script, ends, reads, printing_act, Work, printing_work, deeds_of_work}
use Rattle.command_files.specs.Reading.{states_kind, shifts_kind}
use Rattle.command_loop.specs.Plant.{plant_script}
use Rattle.command_line.specs.declared.status.Status.{Status}
use Rattle.command_line.specs.declared.status.Status.TheVariants.{Done, Memory, WriteFault, Refused, OutsideBox}
use Rattle.qp_model.specs.declared.refusal.Refusal.TheVariants.{TooWide}

-- ---- the course of a loop
-- its states turn by turn from a start, and the lines of its first turns as those of a record
pub record Course : Type 0 where
  pub states : (start : List ℤ) → ℕ → List ℤ
  pub lines : (entry : ℕ) → (start : List ℤ) → ℕ → List ℕ

-- that of a design's plant under a controller of the plain machine: where there are shifts, the state after each turn is shifted by their row of the turn
abbrev pub course_of : Design → Numbers → (shifts : Option Matrix) → Course
course_of d c None = record { states = state_after d c; lines = loop_text d c }
course_of d c (Some shifts) = record { states = λ start. states_under d c start shifts; lines = λ entry start. lines_under d c entry start shifts }

-- the same under a controller of any machine
abbrev pub course_by : Design → Looping → (shifts : Option Matrix) → Course
course_by d l None = record { states = unshifted_by d l; lines = unshifted_lines_by d l }
course_by d l (Some shifts) = record { states = λ start. states_by d l start shifts; lines = λ entry start. lines_by d l entry start shifts }

-- under that of a file
abbrev pub course_of_any : Design → AnyController → (shifts : Option Matrix) → Course
course_of_any d (Plain c) = course_of d c
course_of_any d (Fast c) = course_by d (looping_of_fast c)

-- the quantity `turn`
abbrev pub turn_size_of : Design → AnyController → ℕ
turn_size_of d (Plain c) = turn_size d c
turn_size_of d (Fast c) = turn_size_by d (looping_of_fast c)

-- ---- the loops of all records
-- the loops of the first records stay in the box for all turns
abbrev pub AllStay : Numbers → Course → Matrix → (turns records : ℕ) → Type 0
AllStay c l m turns records = (e : ℕ) → e < records → LieInside c (l.states (row_of m e)) turns

-- the loop of a record is the first that leaves the box, and the status tells the record, the turn and the coordinate
pub record IsFirstLeaving (c : Numbers) (l : Course) (m : Matrix) (turns : ℕ) (s : Status) : Type 0 where
  pub index : ℕ
  pub turn : ℕ
  pub coordinate : ℕ
  pub there : index < length m.rows
  pub before : AllStay c l m turns index
  pub here : LeavesAmong c (l.states (row_of m index)) turns turn coordinate
  pub is : s ≡ OutsideBox (index + 1) turn coordinate

-- the quantity `turn` is above its limit, and there is a record
pub record IsTurnWide (size : ℕ) (m : Matrix) (s : Status) : Type 0 where
  pub record_there : 0 < length m.rows
  pub wide : 2 ^ 126 < size
  pub is : s ≡ Refused (TooWide Turn)

-- there is no record, or the quantity `turn` is within its limit
abbrev pub FitsTurn : (size : ℕ) → Matrix → Type 0
FitsTurn size m = (length m.rows ≡ 0) ⊎ (size ≤ 2 ^ 126)

-- what a controller and states call for, where the quantity `turn` is of this size
abbrev pub LoopsCall : (size : ℕ) → Numbers → Course → (turns : ℕ) → Matrix → Status → Type 0
LoopsCall size c l turns m s =
    IsTurnWide size m s ⊎ ((FitsTurn size m × IsFirstLeaving c l m turns s) ⊎ ((s ≡ Done) × FitsTurn size m × AllStay c l m turns (length m.rows)))

-- a line may be printed: there is a record and a turn, the quantity `turn` is within its limit, and the first record's state lies in the box
pub record MayPrintLine (size : ℕ) (c : Numbers) (l : Course) (turns : ℕ) (m : Matrix) : Type 0 where
  pub record_there : 0 < length m.rows
  pub turn_there : 0 < turns
  pub narrow : size ≤ 2 ^ 126
  pub inside : LieInside c (l.states (row_of m 0)) 1

-- ---- what is printed
-- the lines of all turns of the first records
unfoldable pub record_lines : Course → Matrix → (turns records : ℕ) → List ℕ
record_lines l m turns zero = []
record_lines l m turns (suc k) = record_lines l m turns k ++ l.lines (k + 1) (row_of m k) turns

-- the lines of all turns of the first records, and of some first turns of the next
abbrev pub lines_to : Course → Matrix → (turns records some : ℕ) → List ℕ
lines_to l m turns records some = record_lines l m turns records ++ l.lines (records + 1) (row_of m records) some

-- all lines
pub record AreAll (c : Numbers) (l : Course) (turns : ℕ) (m : Matrix) (old new : List ℕ) : Type 0 where
  pub stays : AllStay c l m turns (length m.rows)
  pub printed : new ≡ old ++ record_lines l m turns (length m.rows)

-- the lines of the records before the one that leaves the box, and of its turns before that
pub record AreToLeaving (c : Numbers) (l : Course) (turns : ℕ) (m : Matrix) (s : Status) (old new : List ℕ) : Type 0 where
  pub leaving : IsFirstLeaving c l m turns s
  pub printed : new ≡ old ++ lines_to l m turns leaving.index (leaving.turn - 1)

-- the lines of the first records, and of some first turns of the next one, all of whose states lie in the box, were printed so
pub record AreTurns (size : ℕ) (c : Numbers) (l : Course) (turns : ℕ) (m : Matrix) (Printed : (lines : List ℕ) → Type 0) : Type 0 where
  pub fits : FitsTurn size m
  pub index : ℕ
  pub there : index < length m.rows
  pub before : AllStay c l m turns index
  pub some : ℕ
  pub within : some ≤ turns
  pub inside : LieInside c (l.states (row_of m index)) some
  pub printed : Printed (lines_to l m turns index some)

-- the last line is cut off: a part of these lines, and not all of them
pub record IsCutOff (old new lines : List ℕ) : Type 0 where
  pub part : List ℕ
  pub proper : IsProperPrefix lines part
  pub printed : new ≡ old ++ part

-- the status tells that a loop left the box
abbrev pub TellsLeaving : Status → Type 0
TellsLeaving s = (entry : ℕ) × (turn : ℕ) × (coordinate : ℕ) × (s ≡ OutsideBox entry turn coordinate)

-- it did so after a line: of a record before, or of a turn before
abbrev pub TellsLeavingLater : Status → Type 0
TellsLeavingLater s = (entry : ℕ) × (turn : ℕ) × (coordinate : ℕ) × (s ≡ OutsideBox entry turn coordinate) × ((1 < entry) ⊎ (1 < turn))

-- what the output got, by the answer
pub record LoopsPrint (size : ℕ) (c : Numbers) (l : Course) (turns : ℕ) (m : Matrix) (s : Status) (old new : List ℕ) : Type 0 where
  pub done : s ≡ Done → AreAll c l turns m old new
  pub outside : TellsLeaving s → AreToLeaving c l turns m s old new
  pub fault : s ≡ WriteFault 0 → AreTurns size c l turns m (IsCutOff old new)
  pub memory : s ≡ Memory → (new ≡ old) ⊎ AreTurns size c l turns m (λ lines. new ≡ old ++ lines)
  pub other : s ≢ Done → (TellsLeaving s → ⊥) → s ≢ WriteFault 0 → s ≢ Memory → new ≡ old

-- ---- the files, one after the other
abbrev pub loop_act : (turns : ℕ) → Design → AnyController → (shifts : Option Matrix) → Matrix → Act
loop_act turns d k v m =
    let size = turn_size_of d k in
    let c = any_numbers k in
    let l = course_of_any d k v in
    printing_act (LoopsCall size c l turns m) (MayPrintLine size c l turns m) (LoopsPrint size c l turns m)

-- the fifth has the shifts where there are disturbances
abbrev pub loop_shifts : (turns : ℕ) (disturbed : Bool) → Design → AnyController → Matrix → Script
loop_shifts turns true d k m = reads 5 (shifts_kind (any_numbers k).states turns) (λ v. ends (loop_act turns d k (Some v) m))
loop_shifts turns false d k m = ends (loop_act turns d k None m)

abbrev pub loop_states : (turns : ℕ) (disturbed : Bool) → Design → AnyController → Script
loop_states turns disturbed d k = reads 3 (states_kind (any_numbers k).states) (loop_shifts turns disturbed d k)

abbrev pub loop_script : (turns : ℕ) (disturbed : Bool) → Script
loop_script turns disturbed = plant_script (loop_states turns disturbed)

-- ---- its row of the table of commands
abbrev pub loop_work : (turns : ℕ) (disturbed : Bool) → Work
loop_work turns disturbed = printing_work (loop_script turns disturbed) TellsLeavingLater

abbrev pub loop_deeds : (turns : ℕ) (disturbed : Bool) → Deeds
loop_deeds turns disturbed = deeds_of_work (loop_work turns disturbed)
