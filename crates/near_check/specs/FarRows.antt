-- What a turn of the closed loop adds to a row where limits may bind, but the plan is near the law's.
use Rattle.std.specs.Prelude.{◌≡◌, ℕ, ◌*◌, ◌^◌, ℤ, pos, ◌+ℤ◌, ◌*ℤ◌, ◌≤ℤ◌, List, length, unsigned_abs}
use Rattle.integer_algebra.specs.Division.{floor_of}
use Rattle.integer_algebra.specs.Sums.{dot, coimage, at}
use Rattle.integer_algebra.specs.Sizes.{amount}
use Rattle.qp_model.specs.problem.Design.{Design}
use Rattle.qp_model.specs.machine.Controller.{Numbers}
use Rattle.stay_check.specs.LoopStay.{shifted_successor}
use Rattle.settle_check.specs.Still.{Box, LiesInBox, greatest_over, fraction_unit}
use Rattle.settle_check.specs.ClosedRows.{turn_rest, loop_over, rounded_size, IsLoopFor}
use Rattle.near_check.specs.Near.{IsNear}

-- what the inputs' distances from the law bring into a row at most, over 2^20 and plant_denominator
abbrev pub far_inputs : Design → (beta : ℕ → ℕ) → (row : ℕ → ℤ) → ℕ
far_inputs d beta row = amount d.inputs (λ l. unsigned_abs (coimage d.states d.plant_b row l) * beta l)

-- what the turn adds: that, and what it adds where no multiplier moves
abbrev pub far_adds : Design → Numbers → (box shifts : Box) → (beta : ℕ → ℕ) → (row next : ℕ → ℤ) → ℤ
far_adds d c box shifts beta row next =
    floor_of (pos (2 ^ 20) *ℤ (pos 2 *ℤ turn_rest d c box row next +ℤ pos (loop_over d c) *ℤ pos (rounded_size d row))
    +ℤ pos (2 * (2 ^ d.grid * fraction_unit c)) *ℤ pos (far_inputs d beta row)) (2 ^ 20 * (2 * loop_over d c))
    +ℤ greatest_over d.states shifts row

-- for any two whole rows, from a state of the box at which the plan is near
abbrev pub FarRowLaw : Type 0
FarRowLaw = (d : Design) (c : Numbers) (box shifts : Box) (beta : ℕ → ℕ) → IsLoopFor d c → (row next : ℕ → ℤ) (xi : List ℤ) (shift : ℕ → ℤ) →
    length xi ≡ d.states → LiesInBox d.states box (at xi) → IsNear c beta xi → LiesInBox d.states shifts shift →
    dot d.states row (at (shifted_successor d c xi shift)) ≤ℤ (dot d.states next (at xi) +ℤ far_adds d c box shifts beta row next)
