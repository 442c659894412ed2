-- A run over the store that another left, and what it makes of the controllers that were written there.
use Rattle.std.specs.Prelude.{ℕ, ◌<◌, ℤ, List, length, Option, Some, IfSome, IsSome, IsSomeAnd}
use Rattle.integer_algebra.specs.Sums.{at}
use Rattle.io_edge.specs.Faults.{Files}
use Rattle.mat_int.specs.Matrix.{Matrix, row_of}
use Rattle.qp_model.specs.problem.Box.{IsGridState}
use Rattle.qp_model.specs.problem.Design.{Design}
use Rattle.qp_model.specs.problem.Policy.{Plans}
use Rattle.qp_model.specs.machine.Controller.{Numbers}
use Rattle.qp_model.specs.bounds.Certified.{IsCertifiedAt}
use Rattle.qp_model.specs.bounds.Printed.{Printed}
use Rattle.fast_bounds.specs.FastCertified.{IsFastCertifiedAt}
use Rattle.controller_file.specs.declared.any_controller.AnyController.{AnyController}
use Rattle.controller_file.specs.declared.any_controller.AnyController.TheVariants.{Plain, Fast}
use Rattle.command_line.specs.Limit.{file_limit}
use Rattle.command_line.specs.Answers.{FileHolds, ForContents, IsAnswer, IsCaused}
use Rattle.command_line.specs.Deeds.{Deeds, IsCalledFor}
use Rattle.command_line.specs.declared.status.Status.{Status}
use Rattle.command_line.specs.declared.status.Status.TheVariants.{Done}
use Rattle.command_files.specs.Texts.{StatesRight}
use Rattle.plan_lines.specs.Printing.{IsSolvedBy}
use Rattle.plan_lines.specs.Lines.{any_plan_line}
use Rattle.command_solve.specs.Deeds.{solve_deeds}
use Rattle.command_split.specs.Splitting.Cells.{cell_of, IsCell}
use Rattle.command_split.specs.Made.{cell_plans}
use Rattle.command_split.specs.Cells.{IsServedBy}
use Rattle.command_serve.specs.Laws.{HasOneCell}
use Rattle.command_serve.specs.Held.{IsAllServed}
use Rattle.command_serve.specs.Deeds.{serve_deeds}

-- What the clauses `called` and `prints` of the program's one call say of a run of the command with this row and these arguments: by what the store told before, by the
-- answer, and by what the output had before and has now.
pub record HasAnswered (deeds : Deeds) (words : List (List ℕ)) (held : Option Files) (s : Status) (before now : Option (List ℕ)) : Type 0 where
  pub called : IsCaused s → ForContents words held (λ contents. IsAnswer (deeds.calls contents) s)
  pub prints : IfSome before (λ old. IsSomeAnd now (λ new. ForContents words held (λ contents. deeds.shows contents s old new)))

-- a file holds grid states of the design's box
pub record HoldsGridStates (d : Design) (content : Option (List ℕ)) (states : Matrix) : Type 0 where
  pub states_right : FileHolds file_limit (StatesRight d.states states) content
  pub inside : (e : ℕ) → e < length states.rows → IsGridState d (at (row_of states e))

-- Such states, solved with a controller of either machine that keeps what is certified. The files call for `Done`, and so for no fault of a text; all is done, but for want
-- of memory and faults, and the output gets the lines of the controller's averaged plans. From each state this is certified.
pub record IsSolvedAs (k : AnyController) (Certified : List ℤ → Type 0) (words : List (List ℕ)) (files : Files) (states : Matrix) (s : Status) (before now : Option (List ℕ)) : Type 0 where
  pub called : IsCalledFor solve_deeds words (Some files) Done
  pub solved : IsSolvedBy (any_plan_line k) states s before now
  pub certified : (e : ℕ) → e < length states.rows → Certified (row_of states e)

-- the run's values fit, its steps are the printed ones, and the plan that its line says keeps the printed violation, gap and undercut
abbrev pub IsSolvedAsCertified : List (List ℕ) → Files → Design → Numbers → Printed → Matrix → Status → (before now : Option (List ℕ)) → Type 0
IsSolvedAsCertified words files d c b = IsSolvedAs (Plain c) (IsCertifiedAt d c b) words files

-- the same of a run of the accelerated machine
abbrev pub IsFastSolvedAsCertified : List (List ℕ) → Files → Design → Numbers → Printed → Matrix → Status → (before now : Option (List ℕ)) → Type 0
IsFastSolvedAsCertified words files d c b = IsSolvedAs (Fast c) (IsFastCertifiedAt d c b) words files

-- One controller has the state in its box, and is certified there with its bounds; the state's line is that of its averaged plan, and no other.
pub record IsPlannedBy (d : Design) (cells : List AnyController) (bounds : List Printed) (xi : List ℤ) : Type 0 where
  pub by : IsServedBy d cells bounds xi
  pub line : HasOneCell cells xi by.index

-- a state lies in a cell that has plans
pub record IsCovered (d : Design) (cuts : List (List ℤ)) (policies : List (Option Plans)) (xi : List ℤ) : Type 0 where
  pub cell : ℕ
  pub is_cell : IsCell cuts cell
  pub here : IsGridState (cell_of d cuts cell) (at xi)
  pub plans : IsSome (cell_plans policies cell)

-- the same of the controllers of cells: each state is served
pub record IsServedAsCertified (words : List (List ℕ)) (files : Files) (d : Design) (cells : List AnyController) (bounds : List Printed) (states : Matrix) (s : Status) (before now : Option (List ℕ)) : Type 0 where
  pub called : IsCalledFor serve_deeds words (Some files) Done
  pub served : IsAllServed cells states s before now
  pub planned : (e : ℕ) → e < length states.rows → IsPlannedBy d cells bounds (row_of states e)
