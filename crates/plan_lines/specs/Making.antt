-- What a prepared machine makes of the states of records: a line of each, until one has none.
use Rattle.std.specs.Prelude.{◌≡◌, ◌⊎◌, ℕ, ◌+◌, ◌<◌, ◌≤◌, ℤ, List, ◌++◌, length, option_map, IfSome, IsSomeAnd}
use Rattle.io_edge.specs.Faults.{Rose, GrowsByPart}
use Rattle.io_edge.specs.declared.sink.Sink.{Ghosts as Screen}
use Rattle.mat_int.specs.Matrix.{Matrix, row_of}
use Rattle.qp_model.specs.machine.Controller.{Numbers}
use Rattle.qp_model.specs.machine.Machine.{IsAdmissible}
use Rattle.fixed_kernel.specs.Outside.{IsFirstOutside}
use Rattle.controller_file.specs.AnyText.{any_numbers}
use Rattle.controller_file.specs.declared.any_controller.AnyController.{AnyController}
use Rattle.controller_file.specs.declared.any_controller.AnyController.TheVariants.{Plain, Fast}
use Rattle.plan_lines.specs.Inside.{AreHeld, IsFirstOut}
use Rattle.plan_lines.specs.Lines.{any_plan_line, AreLinesOf}
use Rattle.plan_lines.specs.declared.any_kernel.AnyKernel.{AnyKernel}
use Rattle.plan_lines.specs.declared.any_kernel.AnyKernel.TheVariants.{Plain as PlainKernel, Fast as FastKernel}
use Rattle.command_line.specs.declared.status.Status.{Status}
use Rattle.command_line.specs.declared.status.Status.TheVariants.{Done, Memory, WriteFault}

pub record Making : Type 1 where
  -- it runs from the state
  pub holds : List ℤ → Type 0
  -- it doesn't, and this is the coordinate that is told
  pub outside : List ℤ → (coordinate : ℕ) → Type 0
  -- this is the line of the run
  pub line : List ℤ → List ℕ → Type 0
  -- the run of the record has none, and the status tells why
  pub stops : (entry : ℕ) → List ℤ → Status → Type 0

-- a machine that runs from each state of a controller's box, by what the line of each is
abbrev pub making_by : Numbers → (line_of : List ℤ → List ℕ) → Making
making_by c line_of = record { holds = IsAdmissible c; outside = IsFirstOutside c; line = λ xi line. line ≡ line_of xi; stops = λ entry xi s. ⊥ }

-- a kernel, of either machine: the line of its controller's averaged plan
abbrev pub any_controller : AnyKernel → AnyController
any_controller (PlainKernel k) = Plain k.controller
any_controller (FastKernel k) = Fast k.controller

abbrev pub making_of_any : AnyController → Making
making_of_any k = making_by (any_numbers k) (any_plan_line k)

-- it runs from each of the first k states
abbrev pub AreRunFrom : Making → Matrix → ℕ → Type 0
AreRunFrom p states k = AreHeld (λ e. p.holds (row_of states e)) k

-- the state of a record is the first from which it doesn't, and the status tells which, and its coordinate
abbrev pub IsRefusedFirst : Making → Matrix → Status → Type 0
IsRefusedFirst p states s = IsFirstOut (λ e. p.holds (row_of states e)) (λ e. p.outside (row_of states e)) (length states.rows) s

-- ---- what is answered, and what the output gets
-- The text is the lines of this many first states. With it all is done, a print of its last line failed, memory ran out, or the next run has no line.
pub data Ending {O : Type 0} (screen : Screen O) (p : Making) (states : Matrix) (out now : O) (count : ℕ) (text : List ℕ) : Status → Type 0 where
  all : count ≡ length states.rows → screen.got now ≡ option_map (λ old. old ++ text) (screen.got out) → Ending screen p states out now count text Done
  short : screen.got now ≡ option_map (λ old. old ++ text) (screen.got out) → Ending screen p states out now count text Memory
  cut : 0 < count → IfSome (screen.got out) (λ old. IsSomeAnd (screen.got now) (λ new. GrowsByPart old new text)) → Rose (screen.faults out) (screen.faults now) →
      Ending screen p states out now count text (WriteFault 0)
  stopped : {s : Status} → count < length states.rows → p.stops (count + 1) (row_of states count) s → screen.got now ≡ option_map (λ old. old ++ text) (screen.got out) → (count ≡ 0 → now ≡ out) →
      Ending screen p states out now count text s

pub record PrintsLines {O : Type 0} (screen : Screen O) (p : Making) (states : Matrix) (out now : O) (s : Status) : Type 0 where
  pub count : ℕ
  pub within : count ≤ length states.rows
  pub text : List ℕ
  pub lines : AreLinesOf p.line states count text
  pub ending : Ending screen p states out now count text s
  pub no_fewer : screen.faults out ≤ screen.faults now

-- nothing where it doesn't run from a state, or memory runs out before that is known
abbrev pub PrintsRecords : {O : Type 0} → Screen O → Making → Matrix → (out now : O) → Status → Type 0
PrintsRecords screen p states out now s =
    (((s ≡ Memory) ⊎ IsRefusedFirst p states s) × (now ≡ out)) ⊎ (AreRunFrom p states (length states.rows) × PrintsLines screen p states out now s)
