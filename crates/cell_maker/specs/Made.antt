-- What is made of the cells of a design's box.
use Rattle.std.specs.Prelude.{◌≡◌, ◌⊎◌, ℕ, ◌+◌, ◌-◌, ◌<◌, ◌≤◌, ℤ, Bool, true, false, List, length, get_or, Option, None, Result, Err, IsOk, IfOk, IfErr, IfSome, IsSomeAnd, map}
use Rattle.integer_algebra.specs.Sums.{at}
use Rattle.qp_model.specs.problem.Box.{IsGridState}
use Rattle.qp_model.specs.problem.Design.{Design}
use Rattle.qp_model.specs.problem.Parts.{design_of, design_numbers}
use Rattle.qp_model.specs.problem.Policy.{Plans}
use Rattle.qp_model.specs.problem.Runs.{Holds}
use Rattle.qp_model.specs.bounds.Certified.{IsCertifiedAt}
use Rattle.qp_model.specs.bounds.Printed.{Printed, printed}
use Rattle.qp_model.specs.declared.bounds.Margin.{Margin}
use Rattle.qp_model.specs.declared.design_parts.DesignParts.{DesignParts}
use Rattle.design_engine.specs.Targets.{Targets, targets_of, IsWithinTargets}
use Rattle.qp_model.specs.declared.refusal.Refusal.{Refusal}
use Rattle.qp_model.specs.declared.refusal.Refusal.TheVariants.{Memory}
use Rattle.fast_bounds.specs.ByMachine.{CauseBy, PassesAllBy, IsBuiltBy}
use Rattle.fast_bounds.specs.FastCertified.{IsFastCertifiedAt}
use Rattle.controller_file.specs.AnyText.{any_numbers}
use Rattle.controller_file.specs.declared.any_controller.AnyController.{AnyController}
use Rattle.controller_file.specs.declared.any_controller.AnyController.TheVariants.{Plain, Fast}
use Rattle.cell_split.specs.Cells.{cell_low, cell_high, cell_count, IsCell}
use Rattle.cell_split.specs.PoliciesText.{covered}
use Rattle.cell_maker.specs.declared.cell.MadeCell.{MadeCell}
use Rattle.cell_maker.specs.declared.make.CellRefusal.{CellRefusal}
use Rattle.cell_maker.specs.declared.make.MadeCells.{MadeCells}

-- this is the design of cell k, from 1: the same with the cell's box
pub record IsCellDesign (p : DesignParts) (cuts : List (List ℤ)) (k : ℕ) (q : DesignParts) : Type 0 where
  pub numbers : design_numbers q ≡ record (design_numbers p) { lo = q.lo.items; hi = q.hi.items }
  pub low : Holds q.lo.items p.states (cell_low (at p.lo.items) cuts k)
  pub high : Holds q.hi.items p.states (cell_high (at p.hi.items) cuts k)

-- the plans of cell k, from 1, of those of all cells, if it has any; a cell that has none gets no controller
abbrev pub cell_plans : List (Option Plans) → ℕ → Option Plans
cell_plans policies k = get_or policies (k - 1) None

-- ---- the machine
-- a controller is of the accelerated machine
abbrev pub is_fast : AnyController → Bool
is_fast (Plain c) = false
is_fast (Fast c) = true

-- by the machine of a controller, its run from a state keeps what is certified with its bounds
abbrev pub IsCertifiedBy : Design → AnyController → Printed → List ℤ → Type 0
IsCertifiedBy d (Plain c) = IsCertifiedAt d c
IsCertifiedBy d (Fast c) = IsFastCertifiedAt d c

-- some numbers pass every test of a machine
abbrev pub PassesSomeBy : (fast : Bool) → Design → Targets → Plans → Type 0
PassesSomeBy fast d t plans = (m : Margin) × (s : ℕ) × (f : ℕ) × PassesAllBy fast d t plans m s f

-- ---- refusals; the machine is that which the design asks for
-- the design of cell k with its plans is refused so
pub record IsCellRefused (p : DesignParts) (fast : Bool) (cuts : List (List ℤ)) (k : ℕ) (plans : Plans) (e : Refusal) : Type 0 where
  pub design : DesignParts
  pub cell : IsCellDesign p cuts k design
  pub cause : CauseBy fast (design_of design) (targets_of design) plans e

-- it is refused in no way
abbrev pub IsCellAccepted : DesignParts → (fast : Bool) → List (List ℤ) → ℕ → Plans → Type 0
IsCellAccepted p fast cuts k plans = (e : Refusal) → ¬ IsCellRefused p fast cuts k plans e

-- it passes every test
pub record PassesCell (p : DesignParts) (fast : Bool) (cuts : List (List ℤ)) (k : ℕ) (plans : Plans) : Type 0 where
  pub design : DesignParts
  pub cell : IsCellDesign p cuts k design
  pub all : PassesSomeBy fast (design_of design) (targets_of design) plans

-- the design of a cell that has plans is refused so, and those of the cells with plans before it aren't
pub record IsFirstRefused (p : DesignParts) (fast : Bool) (cuts : List (List ℤ)) (policies : List (Option Plans)) (e : CellRefusal) : Type 0 where
  pub cell : IsCell cuts e.cell
  pub before : (k : ℕ) → 1 ≤ k → k < e.cell → IfSome (cell_plans policies k) (IsCellAccepted p fast cuts k)
  pub here : IsSomeAnd (cell_plans policies e.cell) (λ plans. IsCellRefused p fast cuts e.cell plans e.refusal)

-- this is the first refusal, and the only one; that cell's design doesn't pass every test
pub record IsOnlyRefused (p : DesignParts) (fast : Bool) (cuts : List (List ℤ)) (policies : List (Option Plans)) (e : CellRefusal) : Type 0 where
  pub first : IsFirstRefused p fast cuts policies e
  pub only : (other : CellRefusal) → IsFirstRefused p fast cuts policies other → other ≡ e
  pub fails : IfSome (cell_plans policies e.cell) (λ plans. ¬ PassesCell p fast cuts e.cell plans)

-- ---- controllers
-- a controller of the machine and its bounds are built of the design and the plans, certified at each grid state of its box, and within its targets
pub record IsMadeOnMachine (fast : Bool) (p : DesignParts) (plans : Plans) (c : AnyController) (b : Printed) : Type 0 where
  pub machine : is_fast c ≡ fast
  pub built : IsBuiltBy fast p plans (any_numbers c) b
  pub certified : (xi : List ℤ) → length xi ≡ p.states → IsGridState (design_of p) (at xi) → IsCertifiedBy (design_of p) c b xi
  pub targets : IsWithinTargets (targets_of p) b

-- so they are of the design of cell k, which is refused in no way
pub record IsCellMade (p : DesignParts) (fast : Bool) (cuts : List (List ℤ)) (k : ℕ) (plans : Plans) (c : AnyController) (b : Printed) : Type 0 where
  pub design : DesignParts
  pub cell : IsCellDesign p cuts k design
  pub made : IsMadeOnMachine fast design plans c b
  pub accepted : IsCellAccepted p fast cuts k plans

-- ---- an answer
-- What is made is so, and a refusal has a cause, or memory ran out. The other way round, each cause is told, and where the tests are passed something is made, with nothing but out of
-- memory in between.
pub record Generates (Made : MadeCell → Type 0) (Cause : Refusal → Type 0) (Passes : Type 0) (r : Result MadeCell Refusal) : Type 0 where
  pub made : IfOk r Made
  pub refused : IfErr r (λ e. (e ≡ Memory) ⊎ Cause e)
  pub every_refusal : (e : Refusal) → Cause e → (r ≡ Err e) ⊎ (r ≡ Err Memory)
  pub accepted : Passes → IsOk r ⊎ (r ≡ Err Memory)

-- of a design and plans by a machine
abbrev pub GeneratesBy : (fast : Bool) → DesignParts → Plans → Result MadeCell Refusal → Type 0
GeneratesBy fast p plans = Generates (λ m. IsMadeOnMachine fast p plans m.controller (printed m.bounds)) (CauseBy fast (design_of p) (targets_of p) plans)
    (PassesSomeBy fast (design_of p) (targets_of p) plans)

-- of the design of cell k
abbrev pub GeneratesCell : DesignParts → (fast : Bool) → List (List ℤ) → ℕ → Plans → Result MadeCell Refusal → Type 0
GeneratesCell p fast cuts k plans = Generates (λ m. IsCellMade p fast cuts k plans m.controller (printed m.bounds)) (IsCellRefused p fast cuts k plans)
    (PassesCell p fast cuts k plans)

-- ---- all of them
-- Those of the first n cells that have plans have these controllers and bounds, in their order: that of cell k, from 0, has as many before it as cells before k have plans.
pub record AreMadeTo (p : DesignParts) (fast : Bool) (cuts : List (List ℤ)) (policies : List (Option Plans)) (n : ℕ) (controllers : List AnyController) (bounds : List Printed) : Type 0 where
  pub count : length controllers ≡ covered policies n
  pub bound_count : length bounds ≡ covered policies n
  pub each : (k : ℕ) (c : AnyController) (b : Printed) → k < n →
      IfSome (cell_plans policies (k + 1)) (λ plans. IsCellMade p fast cuts (k + 1) plans (get_or controllers (covered policies k) c) (get_or bounds (covered policies k) b))

-- all cells
abbrev pub AreCellsMade : DesignParts → (fast : Bool) → List (List ℤ) → List (Option Plans) → List AnyController → List Printed → Type 0
AreCellsMade p fast cuts policies controllers bounds = AreMadeTo p fast cuts policies (cell_count cuts) controllers bounds

abbrev pub AreMadeCells : DesignParts → (fast : Bool) → List (List ℤ) → List (Option Plans) → MadeCells → Type 0
AreMadeCells p fast cuts policies m = AreCellsMade p fast cuts policies m.controllers.items (map printed m.bounds.items)
