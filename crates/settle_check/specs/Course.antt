-- The closed loop as the code holds it: where a row leads, turn by turn, and what is computed on the way.
use Rattle.std.specs.Prelude.{◌≡◌, ◌⊎◌, ℕ, ◌+◌, ◌^◌, ◌<◌, ◌≤◌, Bool, ℤ, pos, ◌+ℤ◌, ◌*ℤ◌, neg_ℤ, if◌then◌else◌}
use Rattle.integer_algebra.specs.Division.{floor_of, round_of}
use Rattle.qp_model.specs.problem.Design.{Design}
use Rattle.qp_model.specs.problem.Parts.{design_of}
use Rattle.qp_model.specs.machine.Controller.{Numbers, numbers}
use Rattle.settle_check.specs.Still.{Box, box_of, greatest_over}
use Rattle.settle_check.specs.ClosedRows.{through_loop, loop_over, turn_adds}
use Rattle.settle_check.specs.TurnSize.{through_size, turn_adds_size, row_size, course_size, HasCourseRoom}
use Rattle.settle_check.specs.Tube.{coordinate_row, tube}
use Rattle.settle_check.specs.Settling.{told_rows, cost_numbers, cost_box}
use Rattle.settle_check.specs.declared.closed.ClosedLoop.{ClosedLoop}
use Rattle.settle_check.specs.declared.fault.SettleFault.{SettleFault}
use Rattle.settle_check.specs.declared.fault.SettleFault.TheVariants.{Memory, TooWide}

-- ---- what it is of
abbrev pub plant : ClosedLoop → Design
plant l = design_of l.parts.now

abbrev pub machine : ClosedLoop → Numbers
machine l = numbers l.c.now

abbrev pub states_box : ClosedLoop → Box
states_box l = box_of l.low.now l.high.now

abbrev pub shifts_box : ClosedLoop → Box
shifts_box l = box_of l.shift_low.now l.shift_high.now

-- ---- one turn
-- the nearest whole row to what a row has of the state through the loop
abbrev pub next_row : ClosedLoop → (row : ℕ → ℤ) → ℕ → ℤ
next_row l row k = round_of (through_loop (plant l) (machine l) row k) (loop_over (plant l) (machine l))

-- what the turn adds
abbrev pub adds : ClosedLoop → (row next : ℕ → ℤ) → ℤ
adds l row next = turn_adds (plant l) (machine l) (states_box l) (shifts_box l) row next

abbrev pub adds_size : ClosedLoop → (row next : ℕ → ℤ) → ℕ
adds_size l row next = turn_adds_size (plant l) (machine l) (states_box l) (shifts_box l) row next

-- a row passes 2^126 on its way through the loop
pub record IsRowWide (l : ClosedLoop) (row : ℕ → ℤ) : Type 0 where
  pub index : ℕ
  pub inside : index < l.parts.now.states
  pub wide : 2 ^ 126 < through_size (plant l) (machine l) row index

-- ---- ends of a box
-- a number, or for the lower end its negation
abbrev pub signed : (upper : Bool) → ℤ → ℤ
signed upper z = if upper then z else neg_ℤ z

-- an end of a coordinate
abbrev pub end_at : (upper : Bool) → Box → ℕ → ℤ
end_at upper z i = if upper then z.high i else z.low i

-- the end that a row shows over a box that loops begin in, after turns that have added a number; its size
abbrev pub end_of : ClosedLoop → (from : Box) → (upper : Bool) → (row : ℕ → ℤ) → (added : ℤ) → ℤ
end_of l from upper row added = signed upper (floor_of (greatest_over l.parts.now.states from row +ℤ added) (2 ^ 24))

abbrev pub end_size : ClosedLoop → (from : Box) → (row : ℕ → ℤ) → (added : ℕ) → ℕ
end_size l from row added = row_size (plant l) from row + added

-- ---- turn by turn
-- the row of an end of coordinate i, over 2^24
abbrev pub end_row : (upper : Bool) → ℕ → ℕ → ℤ
end_row upper i = coordinate_row i (signed upper (pos (2 ^ 24)))

-- where loops from a box lie
abbrev pub tube_of : ClosedLoop → (from : Box) → ℕ → Box
tube_of l from = tube (plant l) (machine l) (states_box l) (shifts_box l) from

-- an end is computed within 2^126
abbrev pub EndHasRoom : ClosedLoop → (from : Box) → ℕ → (upper : Bool) → ℕ → Type 0
EndHasRoom l from turns upper i = HasCourseRoom (plant l) (machine l) (states_box l) (shifts_box l) from (end_row upper i) turns

-- why it wasn't followed to a last turn
abbrev pub IsEndFault : ClosedLoop → (from : Box) → ℕ → (upper : Bool) → ℕ → SettleFault → Type 0
IsEndFault l from turns upper i e = (e ≡ Memory) ⊎ ((e ≡ TooWide) × (EndHasRoom l from turns upper i → ⊥))

-- the same of all coordinates
abbrev pub SideHasRoom : ClosedLoop → (from : Box) → ℕ → (upper : Bool) → Type 0
SideHasRoom l from turns upper = (i : ℕ) → i < l.parts.now.states → EndHasRoom l from turns upper i

abbrev pub IsSideFault : ClosedLoop → (from : Box) → ℕ → (upper : Bool) → SettleFault → Type 0
IsSideFault l from turns upper e = (e ≡ Memory) ⊎ ((e ≡ TooWide) × (SideHasRoom l from turns upper → ⊥))

-- ---- rows of the cost
-- row k as it begins, over 2^24, for the lower end with its signs changed
abbrev pub cost_first : Design → (upper : Bool) → ℕ → ℕ → ℤ
cost_first d upper k j = pos (2 ^ 24) *ℤ signed upper (cost_numbers d k j)

-- where the rows lie
abbrev pub costs_of : ClosedLoop → (turns : ℕ) → Box
costs_of l turns = cost_box (plant l) (machine l) (states_box l) (shifts_box l) turns

-- an end of row k is computed within 2^126
abbrev pub CostHasRoom : Design → Numbers → (z shifts : Box) → (turns : ℕ) → (upper : Bool) → ℕ → Type 0
CostHasRoom d c z shifts turns upper k = course_size d c z shifts z (cost_first d upper k) turns ≤ 2 ^ 126

abbrev pub CostEndHasRoom : ClosedLoop → (turns : ℕ) → (upper : Bool) → ℕ → Type 0
CostEndHasRoom l turns upper k = CostHasRoom (plant l) (machine l) (states_box l) (shifts_box l) turns upper k

-- that of all that are told
abbrev pub CostSideHasRoom : ClosedLoop → (turns : ℕ) → (upper : Bool) → Type 0
CostSideHasRoom l turns upper = (k : ℕ) → k < told_rows (plant l) turns → CostEndHasRoom l turns upper k
