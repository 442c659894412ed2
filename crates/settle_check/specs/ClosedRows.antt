-- Rows of the closed loop where no multiplier moves: what one turn adds to them.
use Rattle.std.specs.Prelude.{◌≡◌, ℕ, zero, suc, ◌+◌, ◌*◌, ◌%◌, ◌^◌, ◌≤◌, ℤ, pos, ◌+ℤ◌, ◌-ℤ◌, ◌*ℤ◌, ◌≤ℤ◌, List, length, unsigned_abs, if◌then◌else◌, nat_eq}
use Rattle.integer_algebra.specs.Division.{floor_of, round_of}
use Rattle.integer_algebra.specs.Sums.{total, dot, coimage, at}
use Rattle.integer_algebra.specs.Sizes.{amount, size}
use Rattle.mat_int.specs.Matrix.{entry_of}
use Rattle.qp_model.specs.problem.Design.{Design}
use Rattle.qp_model.specs.machine.Controller.{Numbers, IsSized}
use Rattle.qp_model.specs.machine.Successor.{IsFor}
use Rattle.overflow_check.specs.FastController.{with_last_version}
use Rattle.stay_check.specs.LoopStay.{shifted_successor}
use Rattle.settle_check.specs.Still.{Box, LiesInBox, greatest_over, greatest_less, fraction_unit, IsStill}

-- ---- the closed loop, but for floors and rounding
-- C: the plant under the plan that the multipliers 0 give, and what it is over
abbrev pub loop_matrix : Design → Numbers → ℕ → ℕ → ℤ
loop_matrix d c i k = pos (fraction_unit c) *ℤ d.plant_a i k -ℤ total d.inputs (λ l. d.plant_b i l *ℤ entry_of c.state_gains l k)

abbrev pub loop_over : Design → Numbers → ℕ
loop_over d c = d.plant_denominator * fraction_unit c

-- a row through the loop, over that, and the nearest whole row
abbrev pub through_loop : Design → Numbers → (row : ℕ → ℤ) → ℕ → ℤ
through_loop d c row = coimage d.states (loop_matrix d c) row

unfoldable pub row_after : Design → Numbers → (first : ℕ → ℤ) → (turns : ℕ) → ℕ → ℤ
row_after d c first zero j = first j
row_after d c first (suc k) j = round_of (through_loop d c (row_after d c first k) j) (loop_over d c)

-- ---- what a turn adds at most, where `next` is taken for the row through the loop
-- what that leaves of number k of the state
abbrev pub left_of : Design → Numbers → (row next : ℕ → ℤ) → ℕ → ℤ
left_of d c row next k = through_loop d c row k -ℤ pos (loop_over d c) *ℤ next k

-- over the box; the offsets; and each input's floor
abbrev pub turn_rest : Design → Numbers → Box → (row next : ℕ → ℤ) → ℤ
turn_rest d c z row next =
    greatest_over d.states z (left_of d c row next)
    +ℤ pos (2 ^ d.grid) *ℤ greatest_less d.inputs (coimage d.states d.plant_b row) (at c.offsets)

-- what keeps the plant's next number i of the state from being whole at every whole state: remainders by its denominator, and inputs; where it is 0 the next
-- number is whole, as one that is held
abbrev pub parted : Design → ℕ → ℕ
parted d i = amount d.states (λ k. unsigned_abs (d.plant_a i k) % d.plant_denominator) + size d.inputs (d.plant_b i)

-- of a row what stands at numbers that are rounded
abbrev pub rounded_row : Design → (row : ℕ → ℤ) → ℕ → ℤ
rounded_row d row i = if nat_eq (parted d i) 0 then pos 0 else row i

abbrev pub rounded_size : Design → (row : ℕ → ℤ) → ℕ
rounded_size d row = size d.states (rounded_row d row)

-- half a unit for each number that is rounded, and the shift
abbrev pub turn_adds : Design → Numbers → (z shifts : Box) → (row next : ℕ → ℤ) → ℤ
turn_adds d c z shifts row next =
    floor_of (pos 2 *ℤ turn_rest d c z row next +ℤ pos (loop_over d c) *ℤ pos (rounded_size d row)) (2 * loop_over d c)
    +ℤ greatest_over d.states shifts row

-- ---- the law of a turn
-- a controller in form for the plant, of any version
pub record IsLoopFor (d : Design) (c : Numbers) : Type 0 where
  pub plant : 1 ≤ d.plant_denominator
  pub sized : IsSized (with_last_version c)
  pub sizes : IsFor c d

-- for any two whole rows: what the next state has of the first is at most what the state has of the second, and what the turn adds
abbrev pub RowLaw : Type 0
RowLaw = (d : Design) (c : Numbers) (z shifts : Box) → IsLoopFor d c → IsStill c z → (row next : ℕ → ℤ) (xi : List ℤ) (shift : ℕ → ℤ) →
    length xi ≡ d.states → LiesInBox d.states z (at xi) → LiesInBox d.states shifts shift →
    dot d.states row (at (shifted_successor d c xi shift)) ≤ℤ (dot d.states next (at xi) +ℤ turn_adds d c z shifts row next)
