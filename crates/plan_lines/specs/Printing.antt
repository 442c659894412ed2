-- What the output gets of the lines of a controller from states.
use Rattle.std.specs.Prelude.{◌≡◌, ◌≢◌, ◌⊎◌, ℕ, ◌<◌, ◌≤◌, ℤ, List, ◌++◌, length, Option, IfSome, IsSomeAnd}
use Rattle.io_edge.specs.Faults.{GrowsByPart}
use Rattle.mat_int.specs.Matrix.{Matrix}
use Rattle.qp_model.specs.machine.Controller.{Numbers}
use Rattle.qp_model.specs.text.ControllerText.{plan_line}
use Rattle.plan_lines.specs.Inside.{AreHeld, IsFirstOut}
use Rattle.plan_lines.specs.Lines.{first_lines}
use Rattle.command_line.specs.Answers.{IsCaused}
use Rattle.command_line.specs.Script.{Act, printing_act}
use Rattle.command_line.specs.declared.status.Status.{Status}
use Rattle.command_line.specs.declared.status.Status.TheVariants.{Done, Memory, WriteFault}

-- the lines of some first states, by what the line of each is
pub record AreSomeLines (line : List ℤ → List ℕ) (states : Matrix) (old new : List ℕ) : Type 0 where
  pub count : ℕ
  pub some : count ≤ length states.rows
  pub printed : new ≡ old ++ first_lines line states count

-- those of the averaged plans
abbrev pub AreFirstLines : Numbers → Matrix → (old new : List ℕ) → Type 0
AreFirstLines c = AreSomeLines (plan_line c)

-- what the output gets of the lines of states: all of them, a part that isn't all, or those of some first states
pub record Lines : Type 1 where
  pub all : (old new : List ℕ) → Type 0
  pub part : (old new : List ℕ) → Type 0
  pub some : (old new : List ℕ) → Type 0

-- by the answer
pub record AreLinesPrinted (lines : Lines) (s : Status) (old new : List ℕ) : Type 0 where
  pub done : s ≡ Done → lines.all old new
  pub fault : s ≡ WriteFault 0 → lines.part old new
  pub memory : s ≡ Memory → lines.some old new

-- by what the line of each state is
abbrev pub lines_by : (line : List ℤ → List ℕ) → Matrix → Lines
lines_by line states = record {
  all = λ old new. new ≡ old ++ first_lines line states (length states.rows);
  part = λ old new. GrowsByPart old new (first_lines line states (length states.rows));
  some = AreSomeLines line states;
}

-- the lines of a controller's averaged plans
abbrev pub lines_of_plans : Numbers → Matrix → Lines
lines_of_plans c = lines_by (plan_line c)

abbrev pub ArePrinted : Numbers → Matrix → Status → (old new : List ℕ) → Type 0
ArePrinted c states s old new = AreLinesPrinted (lines_of_plans c states) s old new

-- ---- lines where all states are in order, and nothing where one isn't
pub record LinesShow (Inside : Type 0) (lines : Lines) (s : Status) (old new : List ℕ) : Type 0 where
  pub done : s ≡ Done → Inside × lines.all old new
  pub fault : s ≡ WriteFault 0 → Inside × lines.part old new
  pub memory : s ≡ Memory → (new ≡ old) ⊎ (Inside × lines.some old new)
  pub other : s ≢ Done → s ≢ WriteFault 0 → s ≢ Memory → new ≡ old

-- the first state that isn't is told, or the lines are printed; a line may be where there is a state
abbrev pub lines_act : (Held : ℕ → Type 0) (Out : (e coordinate : ℕ) → Type 0) (states : Matrix) (lines : Lines) → Act
lines_act Held Out states lines =
    printing_act (λ s. IsFirstOut Held Out (length states.rows) s ⊎ ((s ≡ Done) × AreHeld Held (length states.rows))) (AreHeld Held (length states.rows) × (0 < length states.rows))
    (LinesShow (AreHeld Held (length states.rows)) lines)

-- ---- what is printed where the files hold a controller and states
-- all is done, but for want of memory and faults, and the output, by what it had and has, gets these lines: all of them, a part that isn't all where a print failed, or
-- those of some first states
pub record IsSolvedBy (line : List ℤ → List ℕ) (states : Matrix) (s : Status) (before now : Option (List ℕ)) : Type 0 where
  pub done : IsCaused s → s ≡ Done
  pub printed : IfSome before (λ old. IsSomeAnd now (AreLinesPrinted (lines_by line states) s old))

-- those of the averaged plans
abbrev pub IsSolved : Numbers → Matrix → Status → (before now : Option (List ℕ)) → Type 0
IsSolved c = IsSolvedBy (plan_line c)
