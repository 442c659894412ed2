-- Where a loop lies turn by turn, as rows of the closed loop show it.
use Rattle.std.specs.Prelude.{◌≡◌, ℕ, zero, suc, ◌^◌, ◌<◌, ℤ, pos, ◌+ℤ◌, ◌*ℤ◌, neg_ℤ, ◌≤ℤ◌, List, length, if◌then◌else◌, nat_eq}
use Rattle.integer_algebra.specs.Division.{floor_of}
use Rattle.integer_algebra.specs.Sums.{total, dot, at}
use Rattle.qp_model.specs.problem.Design.{Design}
use Rattle.qp_model.specs.machine.Controller.{Numbers}
use Rattle.stay_check.specs.LoopStay.{state_under, AreShiftsUpTo}
use Rattle.settle_check.specs.Still.{Box, LiesInBox, greatest_over, IsStill}
use Rattle.settle_check.specs.ClosedRows.{row_after, turn_adds, IsLoopFor}

-- ---- any rows
-- what the turns add together
abbrev pub turns_add : Design → Numbers → (z shifts : Box) → (rows : ℕ → ℕ → ℤ) → (turns : ℕ) → ℤ
turns_add d c z shifts rows turns = total turns (λ k. turn_adds d c z shifts (rows k) (rows (suc k)))

-- the loop's states before a turn lie in the box
abbrev pub IsIn : Design → Numbers → Box → List ℤ → (shifts : ℕ → ℕ → ℤ) → ℕ → Type 0
IsIn d c z start shifts turns = (k : ℕ) → k < turns → LiesInBox d.states z (at (state_under d c start shifts k))

-- ---- the rows of the coordinates, over 2^24
abbrev pub coordinate_row : ℕ → ℤ → ℕ → ℤ
coordinate_row i factor j = if nat_eq j i then factor else pos 0

-- the most of a first row after so many turns from a box
abbrev pub most_after : Design → Numbers → (z shifts from : Box) → (first : ℕ → ℤ) → ℕ → ℤ
most_after d c z shifts from first turns =
    greatest_over d.states from (row_after d c first turns) +ℤ turns_add d c z shifts (row_after d c first) turns

-- where the state lies after so many turns from a box
abbrev pub tube : Design → Numbers → (z shifts from : Box) → ℕ → Box
tube d c z shifts from zero = from
tube d c z shifts from (suc k) = record {
  low = λ i. neg_ℤ (floor_of (most_after d c z shifts from (coordinate_row i (neg_ℤ (pos (2 ^ 24)))) (suc k)) (2 ^ 24));
  high = λ i. floor_of (most_after d c z shifts from (coordinate_row i (pos (2 ^ 24))) (suc k)) (2 ^ 24);
}

-- the most of a whole row of the state after so many turns from a box
abbrev pub row_most : Design → Numbers → (z shifts from : Box) → (row : ℕ → ℤ) → ℕ → ℤ
row_most d c z shifts from row turns = floor_of (most_after d c z shifts from (λ j. pos (2 ^ 24) *ℤ row j) turns) (2 ^ 24)

-- ---- where the loop's states lie in the box before a turn
-- for any whole rows
abbrev pub TubeRowsLaw : Type 0
TubeRowsLaw = (d : Design) (c : Numbers) (z shifts : Box) → IsLoopFor d c → IsStill c z → (rows : ℕ → ℕ → ℤ) (start : List ℤ) (disturbances : ℕ → ℕ → ℤ) (turns : ℕ) →
    length start ≡ d.states → AreShiftsUpTo d shifts.low shifts.high disturbances turns → IsIn d c z start disturbances turns →
    dot d.states (rows 0) (at (state_under d c start disturbances turns)) ≤ℤ (dot d.states (rows turns) (at start) +ℤ turns_add d c z shifts rows turns)

-- the state lies in the tube
abbrev pub TubeLaw : Type 0
TubeLaw = (d : Design) (c : Numbers) (z shifts from : Box) → IsLoopFor d c → IsStill c z → (start : List ℤ) (disturbances : ℕ → ℕ → ℤ) (turns : ℕ) →
    length start ≡ d.states → LiesInBox d.states from (at start) → AreShiftsUpTo d shifts.low shifts.high disturbances turns →
    IsIn d c z start disturbances turns → LiesInBox d.states (tube d c z shifts from turns) (at (state_under d c start disturbances turns))
