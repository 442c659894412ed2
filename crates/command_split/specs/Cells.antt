-- What the cells of a design's box with their policies call for, and by which controller each state is served.
use Rattle.std.specs.Prelude.{◌≡◌, ◌⊎◌, ℕ, ◌+◌, ◌<◌, ℤ, Bool, List, length, get_or, Option, IfSome, MatchOption}
use Rattle.integer_algebra.specs.Sums.{at}
use Rattle.qp_model.specs.problem.Box.{IsGridState}
use Rattle.qp_model.specs.problem.Design.{Design}
use Rattle.qp_model.specs.problem.Policy.{Plans}
use Rattle.qp_model.specs.problem.Runs.{Holds}
use Rattle.qp_model.specs.machine.Machine.{IsAdmissible}
use Rattle.qp_model.specs.bounds.Printed.{Printed}
use Rattle.qp_model.specs.declared.design_parts.DesignParts.{DesignParts}
use Rattle.cell_split.specs.Cells.{cell_low, cell_high, cell_count, IsCell, IsServed}
use Rattle.cell_split.specs.PoliciesText.{covered}
use Rattle.cell_maker.specs.Controllers.AnyText.{any_numbers}
use Rattle.cell_maker.specs.Controllers.declared.any_controller.AnyController.{AnyController}
use Rattle.cell_file.specs.Finding.{IsFirstHolding, NoneHolds}
use Rattle.cell_maker.specs.Made.{cell_plans, PassesCell, IsFirstRefused, IsCertifiedBy}
use Rattle.cell_maker.specs.declared.make.CellRefusal.{CellRefusal}
use Rattle.command_line.specs.declared.status.Status.{Status}
use Rattle.command_line.specs.declared.status.Status.TheVariants.{Done, Cell}

-- ---- answers
-- the design of a cell is refused, the first, and the status says which and why
pub record IsRefusedCell (p : DesignParts) (fast : Bool) (cuts : List (List ℤ)) (policies : List (Option Plans)) (s : Status) : Type 0 where
  pub refusal : CellRefusal
  pub first : IsFirstRefused p fast cuts policies refusal
  pub is : s ≡ Cell refusal.cell refusal.refusal

-- the design of each cell that has plans passes every test with them
abbrev pub EachPasses : DesignParts → (fast : Bool) → List (List ℤ) → List (Option Plans) → Type 0
EachPasses p fast cuts policies = (k : ℕ) → IsCell cuts k → IfSome (cell_plans policies k) (PassesCell p fast cuts k)

-- what a design with cuts and the policies of their cells calls for, by the machine that it asks for: the first refusal, or the design of each cell with plans passes every test
abbrev pub CellsCall : DesignParts → (fast : Bool) → List (List ℤ) → List (Option Plans) → Status → Type 0
CellsCall p fast cuts policies s = IsRefusedCell p fast cuts policies s ⊎ ((s ≡ Done) × EachPasses p fast cuts policies)

-- ---- controllers
-- The own box of each controller is that of its cell: that of cell k + 1, if this has plans, is the controller before which there are as many as cells before it have plans.
pub record HaveCellBoxes (p : DesignParts) (cuts : List (List ℤ)) (policies : List (Option Plans)) (cells : List AnyController) : Type 0 where
  pub low : (k : ℕ) (c : AnyController) → k < cell_count cuts → IfSome (cell_plans policies (k + 1)) (λ _. Holds (any_numbers (get_or cells (covered policies k) c)).low p.states (cell_low (at p.lo.items) cuts (k + 1)))
  pub high : (k : ℕ) (c : AnyController) → k < cell_count cuts → IfSome (cell_plans policies (k + 1)) (λ _. Holds (any_numbers (get_or cells (covered policies k) c)).high p.states (cell_high (at p.hi.items) cuts (k + 1)))

-- One controller has the state in its box, and no other; so it is the first that has. It is certified there with its bounds, for the whole design, by its machine.
pub record IsServedBy (d : Design) (cells : List AnyController) (bounds : List Printed) (xi : List ℤ) : Type 0 where
  pub index : ℕ
  pub first : IsFirstHolding cells xi index
  pub alone : (k : ℕ) (c : AnyController) → k < length cells → IsAdmissible (any_numbers (get_or cells k c)) xi → k ≡ index
  pub certified : (c : AnyController) (b : Printed) → IsCertifiedBy d (get_or cells index c) (get_or bounds index b) xi

-- One cell has the state. If the cell has plans, the state is served by one controller; if not, no controller has it in its box, so that `serve` refuses it.
pub record IsServedByCell (d : Design) (cuts : List (List ℤ)) (policies : List (Option Plans)) (cells : List AnyController) (bounds : List Printed) (xi : List ℤ) : Type 0 where
  pub own : IsServed d cuts (at xi)
  pub by : MatchOption (cell_plans policies own.cell) (NoneHolds cells xi (length cells)) (λ _. IsServedBy d cells bounds xi)

-- so it is at each grid state of the box
abbrev pub EachIsServed : Design → List (List ℤ) → List (Option Plans) → List AnyController → List Printed → Type 0
EachIsServed d cuts policies cells bounds = (xi : List ℤ) → length xi ≡ d.states → IsGridState d (at xi) → IsServedByCell d cuts policies cells bounds xi
