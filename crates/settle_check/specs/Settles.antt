-- What a check of a certificate answers.
use Rattle.std.specs.Prelude.{◌≡◌, ◌⊎◌, ℕ, ◌^◌, ◌<◌, ◌≤◌, true, false, ℤ}
use Rattle.qp_model.specs.problem.Design.{Design}
use Rattle.qp_model.specs.machine.Controller.{Numbers}
use Rattle.settle_check.specs.Still.{Box, IsPartOf, IsStill}
use Rattle.settle_check.specs.StillSize.{still_size}
use Rattle.settle_check.specs.TurnSize.{HasCourseRoom}
use Rattle.settle_check.specs.Tube.{tube}
use Rattle.settle_check.specs.Settling.{Certificate, Leads, told_rows}
use Rattle.settle_check.specs.Course.{plant, machine, states_box, shifts_box, end_row, CostHasRoom}
use Rattle.settle_check.specs.Answers.{RowIsStill, RowMoves}
use Rattle.settle_check.specs.Beyond.{goal_at, IsFirstTurnBeyond}
use Rattle.settle_check.specs.declared.closed.ClosedLoop.{ClosedLoop}
use Rattle.settle_check.specs.declared.fault.SettleFault.{SettleFault}
use Rattle.settle_check.specs.declared.fault.SettleFault.TheVariants.{Memory, TooWide, Moves, Unsettled, NoReturn}

-- ---- what is computed within 2^126: the quantity `settle`
-- the test of each row
abbrev pub RowsHaveRoom : Numbers → Box → Type 0
RowsHaveRoom c z = (i : ℕ) → i < c.rows → still_size c z i ≤ 2 ^ 126

-- both ends of each coordinate, turn by turn
abbrev pub EndsHaveRoom : Design → Numbers → (z shifts from : Box) → ℕ → Type 0
EndsHaveRoom d c z shifts from turns =
    (i : ℕ) → i < d.states → HasCourseRoom d c z shifts from (end_row false i) turns × HasCourseRoom d c z shifts from (end_row true i) turns

-- both ends of each row of the cost that is told
abbrev pub CostsHaveRoom : Design → Numbers → (z shifts : Box) → (turns : ℕ) → Type 0
CostsHaveRoom d c z shifts turns = (k : ℕ) → k < told_rows d turns → CostHasRoom d c z shifts turns false k × CostHasRoom d c z shifts turns true k

-- all of a certificate
pub record HasAllRoom (d : Design) (c : Numbers) (shifts : Box) (s : Certificate) : Type 0 where
  pub there : EndsHaveRoom d c s.still shifts s.start s.turns
  pub again : EndsHaveRoom d c s.still shifts s.rest s.back
  pub costs : CostsHaveRoom d c s.still shifts s.after
  pub rows : RowsHaveRoom c s.still

-- of a tube
abbrev pub TubeHasRoom : ClosedLoop → (from : Box) → ℕ → Type 0
TubeHasRoom l from turns = EndsHaveRoom (plant l) (machine l) (states_box l) (shifts_box l) from turns

abbrev pub IsTubeFault : ClosedLoop → (from : Box) → ℕ → SettleFault → Type 0
IsTubeFault l from turns e = (e ≡ Memory) ⊎ ((e ≡ TooWide) × (TubeHasRoom l from turns → ⊥))

-- of rows of the cost
abbrev pub LoopCostsHaveRoom : ClosedLoop → (turns : ℕ) → Type 0
LoopCostsHaveRoom l turns = CostsHaveRoom (plant l) (machine l) (states_box l) (shifts_box l) turns

-- ---- the tests, in their order
pub record PassesSettling (d : Design) (c : Numbers) (shifts : Box) (s : Certificate) : Type 0 where
  pub room : HasAllRoom d c shifts s
  pub still : IsStill c s.still
  pub there : Leads d c shifts s s.start s.turns
  pub again : Leads d c shifts s s.rest s.back

-- the multiplier of a row may move, and of none before it
pub record IsFirstMove (c : Numbers) (z : Box) (row : ℕ) (left right : ℤ) : Type 0 where
  pub index : ℕ
  pub inside : index < c.rows
  pub before : (i : ℕ) → i < index → RowIsStill c z i
  pub here : RowMoves c z index row left right

-- of a loop from a box, the first end beyond what is asked
abbrev pub IsFirstEnd : Design → Numbers → (shifts : Box) → Certificate → (from : Box) → ℕ → (turn coordinate : ℕ) → ℤ → Type 0
IsFirstEnd d c shifts s from turns turn coordinate bound =
    IsFirstTurnBeyond d.states turns (goal_at s turns) (tube d c s.still shifts from) turn coordinate bound

abbrev pub IsSettleFault : Design → Numbers → (shifts : Box) → Certificate → SettleFault → Type 0
IsSettleFault d c shifts s Memory = ⊥
IsSettleFault d c shifts s TooWide = HasAllRoom d c shifts s → ⊥
IsSettleFault d c shifts s (Moves row left right) = HasAllRoom d c shifts s × IsFirstMove c s.still row left right
IsSettleFault d c shifts s (Unsettled turn coordinate bound) =
    HasAllRoom d c shifts s × IsStill c s.still × IsFirstEnd d c shifts s s.start s.turns turn coordinate bound
IsSettleFault d c shifts s (NoReturn turn coordinate bound) =
    HasAllRoom d c shifts s × IsStill c s.still × Leads d c shifts s s.start s.turns × IsFirstEnd d c shifts s s.rest s.back turn coordinate bound

-- ---- the same, by the boxes of both ways, and without what these are computed within
abbrev pub AllInside : Certificate → (n turns : ℕ) → (boxes : ℕ → Box) → Type 0
AllInside s n turns boxes = (t : ℕ) → t ≤ turns → IsPartOf n (goal_at s turns t) (boxes t)

pub record PassesBy (c : Numbers) (s : Certificate) (first second : ℕ → Box) : Type 0 where
  pub room : RowsHaveRoom c s.still
  pub still : IsStill c s.still
  pub there : AllInside s c.states s.turns first
  pub again : AllInside s c.states s.back second

abbrev pub IsSettleFaultBy : Numbers → Certificate → (there again : ℕ → Box) → SettleFault → Type 0
IsSettleFaultBy c s there again Memory = ⊥
IsSettleFaultBy c s there again TooWide = RowsHaveRoom c s.still → ⊥
IsSettleFaultBy c s there again (Moves row left right) = RowsHaveRoom c s.still × IsFirstMove c s.still row left right
IsSettleFaultBy c s there again (Unsettled turn coordinate bound) =
    RowsHaveRoom c s.still × IsStill c s.still × IsFirstTurnBeyond c.states s.turns (goal_at s s.turns) there turn coordinate bound
IsSettleFaultBy c s there again (NoReturn turn coordinate bound) =
    RowsHaveRoom c s.still × IsStill c s.still × AllInside s c.states s.turns there
    × IsFirstTurnBeyond c.states s.back (goal_at s s.back) again turn coordinate bound
