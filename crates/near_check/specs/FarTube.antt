-- Where a loop lies turn by turn that begins where limits may bind.
use Rattle.std.specs.Prelude.{◌≡◌, ℕ, zero, suc, ◌-◌, ◌^◌, ◌<◌, ℤ, pos, ◌+ℤ◌, neg_ℤ, List, length, if◌then◌else◌, nat_lt}
use Rattle.integer_algebra.specs.Division.{floor_of}
use Rattle.integer_algebra.specs.Sums.{total, at}
use Rattle.qp_model.specs.problem.Design.{Design}
use Rattle.qp_model.specs.machine.Controller.{Numbers}
use Rattle.stay_check.specs.LoopStay.{state_under, AreShiftsUpTo}
use Rattle.settle_check.specs.Still.{Box, LiesInBox, greatest_over, IsStill}
use Rattle.settle_check.specs.ClosedRows.{row_after, turn_adds, IsLoopFor}
use Rattle.settle_check.specs.Tube.{coordinate_row}
use Rattle.near_check.specs.Near.{IsNear}
use Rattle.near_check.specs.FarRows.{far_adds}

-- so many first turns from states of an outer box, where plans are near the law's: input l by distance l / 2^20
pub record FirstTurns : Type 0 where
  pub outer : Box
  pub distance : ℕ → ℕ
  pub count : ℕ

-- from each state of the outer box
abbrev pub AreNear : Design → Numbers → FirstTurns → Type 0
AreNear d c g = (xi : List ℤ) → length xi ≡ d.states → LiesInBox d.states g.outer (at xi) → IsNear c g.distance xi

-- the box of a turn from which its bound is: the outer one at first, and then that where no multiplier moves
abbrev pub box_at : FirstTurns → (z : Box) → ℕ → Box
box_at g z turn = if nat_lt turn g.count then g.outer else z

-- what that turn adds
abbrev pub adds_at : Design → Numbers → (z shifts : Box) → FirstTurns → (turn : ℕ) → (row next : ℕ → ℤ) → ℤ
adds_at d c z shifts g turn row next = if nat_lt turn g.count then far_adds d c g.outer shifts g.distance row next else turn_adds d c z shifts row next

-- what the turns add together: the first row is of the last turn
abbrev pub all_add : Design → Numbers → (z shifts : Box) → FirstTurns → (rows : ℕ → ℕ → ℤ) → (turns : ℕ) → ℤ
all_add d c z shifts g rows turns = total turns (λ k. adds_at d c z shifts g (turns - suc k) (rows k) (rows (suc k)))

-- the loop's states before a turn lie in their boxes
abbrev pub IsThrough : Design → Numbers → (z : Box) → FirstTurns → List ℤ → (shifts : ℕ → ℕ → ℤ) → ℕ → Type 0
IsThrough d c z g start shifts turns = (k : ℕ) → k < turns → LiesInBox d.states (box_at g z k) (at (state_under d c start shifts k))

-- the most of a first row after so many turns from a box
abbrev pub far_most : Design → Numbers → (z shifts from : Box) → FirstTurns → (first : ℕ → ℤ) → ℕ → ℤ
far_most d c z shifts from g first turns =
    greatest_over d.states from (row_after d c first turns) +ℤ all_add d c z shifts g (row_after d c first) turns

-- where the state lies after so many turns from a box
abbrev pub far_tube : Design → Numbers → (z shifts from : Box) → FirstTurns → ℕ → Box
far_tube d c z shifts from g zero = from
far_tube d c z shifts from g (suc k) = record {
  low = λ i. neg_ℤ (floor_of (far_most d c z shifts from g (coordinate_row i (neg_ℤ (pos (2 ^ 24)))) (suc k)) (2 ^ 24));
  high = λ i. floor_of (far_most d c z shifts from g (coordinate_row i (pos (2 ^ 24))) (suc k)) (2 ^ 24);
}

-- a loop whose states before a turn lie in their boxes lies in the tube there
abbrev pub FarTubeLaw : Type 0
FarTubeLaw = (d : Design) (c : Numbers) (z shifts from : Box) (g : FirstTurns) → IsLoopFor d c → IsStill c z → AreNear d c g →
    (start : List ℤ) (disturbances : ℕ → ℕ → ℤ) (turns : ℕ) → length start ≡ d.states → LiesInBox d.states from (at start) →
    AreShiftsUpTo d shifts.low shifts.high disturbances turns → IsThrough d c z g start disturbances turns →
    LiesInBox d.states (far_tube d c z shifts from g turns) (at (state_under d c start disturbances turns))
