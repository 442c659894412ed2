-- The absolute sums that a turn of the closed loop is computed within.
use Rattle.std.specs.Prelude.{ℕ, suc, ◌+◌, ◌*◌, ◌^◌, ◌<◌, ◌≤◌, max, ℤ, unsigned_abs}
use Rattle.integer_algebra.specs.Sums.{at}
use Rattle.integer_algebra.specs.Sizes.{amount}
use Rattle.mat_int.specs.Matrix.{entry_of}
use Rattle.qp_model.specs.problem.Design.{Design}
use Rattle.qp_model.specs.machine.Controller.{Numbers}
use Rattle.settle_check.specs.Still.{Box, fraction_unit}
use Rattle.settle_check.specs.StillSize.{furthest}
use Rattle.settle_check.specs.ClosedRows.{loop_over, rounded_size, row_after}

-- what coordinate i of the plant has of number k of the state through the inputs, and in all
abbrev pub feedback_size : Design → Numbers → ℕ → ℕ → ℕ
feedback_size d c i k = amount d.inputs (λ l. unsigned_abs (d.plant_b i l) * unsigned_abs (entry_of c.state_gains l k))

abbrev pub loop_size : Design → Numbers → ℕ → ℕ → ℕ
loop_size d c i k = fraction_unit c * unsigned_abs (d.plant_a i k) + feedback_size d c i k

-- what a row has of it, each number at least 1
abbrev pub through_size : Design → Numbers → (row : ℕ → ℤ) → ℕ → ℕ
through_size d c row k = amount d.states (λ i. loop_size d c i k * max (unsigned_abs (row i)) 1)

-- what it has of an input, and of the floors and offsets of all
abbrev pub input_size : Design → (row : ℕ → ℤ) → ℕ → ℕ
input_size d row l = amount d.states (λ i. unsigned_abs (d.plant_b i l) * max (unsigned_abs (row i)) 1)

abbrev pub inputs_size : Design → Numbers → (row : ℕ → ℤ) → ℕ
inputs_size d c row = amount d.inputs (λ l. input_size d row l * (unsigned_abs (at c.offsets l) + 1))

-- what another row leaves of number k of the state, over a box, and of all
abbrev pub left_over_size : Design → Numbers → Box → (row next : ℕ → ℤ) → ℕ → ℕ
left_over_size d c z row next k = (through_size d c row k + loop_over d c * max (unsigned_abs (next k)) 1) * furthest z k

abbrev pub lefts_size : Design → Numbers → Box → (row next : ℕ → ℤ) → ℕ
lefts_size d c z row next = amount d.states (left_over_size d c z row next)

-- all that a turn adds but for rounding and shifts
abbrev pub turn_rest_size : Design → Numbers → Box → (row next : ℕ → ℤ) → ℕ
turn_rest_size d c z row next = lefts_size d c z row next + 2 ^ d.grid * inputs_size d c row

-- a row over a box, of states or of shifts
abbrev pub row_size : Design → Box → (row : ℕ → ℤ) → ℕ
row_size d z row = amount d.states (λ k. unsigned_abs (row k) * furthest z k)

-- all that a turn adds, over twice what rows are over, and the shifts
abbrev pub turn_adds_size : Design → Numbers → (z shifts : Box) → (row next : ℕ → ℤ) → ℕ
turn_adds_size d c z shifts row next = 2 * turn_rest_size d c z row next + loop_over d c * rounded_size d row + row_size d shifts row

-- ---- turn by turn
-- what the turns add together
abbrev pub turns_size : Design → Numbers → (z shifts : Box) → (rows : ℕ → ℕ → ℤ) → (turns : ℕ) → ℕ
turns_size d c z shifts rows turns = amount turns (λ k. turn_adds_size d c z shifts (rows k) (rows (suc k)))

-- a first row after so many turns over the box that it begins in, and what the turns have added
abbrev pub course_size : Design → Numbers → (z shifts from : Box) → (first : ℕ → ℤ) → ℕ → ℕ
course_size d c z shifts from first turns =
    row_size d from (row_after d c first turns) + turns_size d c z shifts (row_after d c first) turns

-- it is computed within 2^126 after each of so many turns
abbrev pub HasCourseRoom : Design → Numbers → (z shifts from : Box) → (first : ℕ → ℤ) → ℕ → Type 0
HasCourseRoom d c z shifts from first turns = (t : ℕ) → t < turns → course_size d c z shifts from first (suc t) ≤ 2 ^ 126
