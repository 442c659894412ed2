-- The quantity `turn`, which bounds each number that the next state is made of.
use Rattle.std.specs.Prelude.{ℕ, ◌+◌, ◌*◌, max, unsigned_abs, slice_index_or}
use Rattle.integer_algebra.specs.Sums.{at}
use Rattle.integer_algebra.specs.Sizes.{amount}
use Rattle.qp_model.specs.problem.Design.{Design}
use Rattle.qp_model.specs.machine.Controller.{Numbers}
use Rattle.qp_model.specs.machine.AbsoluteSums.{plan_magnitudes}
use Rattle.qp_model.specs.form.Quantities.{greatest}
use Rattle.qp_model.specs.machine.Successor.{grid_scale, next_over}

-- how far coordinate j of a state of the box lies from 0, over 2^grid_bits
abbrev pub coordinate_magnitude : Numbers → ℕ → ℕ
coordinate_magnitude c j = max (unsigned_abs (at c.low j)) (unsigned_abs (at c.high j))

-- row i of the plant at such states
abbrev pub state_absolute_sum : Design → Numbers → ℕ → ℕ
state_absolute_sum d c i = amount d.states (λ j. unsigned_abs (d.plant_a i j) * coordinate_magnitude c j)

-- at the inputs of all steps together, over 2^fraction_bits
abbrev pub input_absolute_sum : Design → Numbers → ℕ → ℕ
input_absolute_sum d c i = amount d.inputs (λ l. unsigned_abs (d.plant_b i l) * (c.steps * slice_index_or (plan_magnitudes c) l 0))

-- both over the averaged plan's denominator
abbrev pub turn_absolute_sum : Design → Numbers → ℕ → ℕ
turn_absolute_sum d c i = state_absolute_sum d c i * grid_scale c + input_absolute_sum d c i

-- twice the greatest, and what the next state is over: `turn`
abbrev pub turn_size : Design → Numbers → ℕ
turn_size d c = 2 * greatest d.states (turn_absolute_sum d c) + next_over d c
