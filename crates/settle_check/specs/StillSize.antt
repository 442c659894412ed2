-- The absolute sums that the test of a row is computed within.
use Rattle.std.specs.Prelude.{ℕ, ◌+◌, ◌-◌, ◌*◌, ◌^◌, max, unsigned_abs}
use Rattle.integer_algebra.specs.Sums.{at}
use Rattle.integer_algebra.specs.Sizes.{amount}
use Rattle.mat_int.specs.Matrix.{entry_of}
use Rattle.qp_model.specs.machine.Controller.{Numbers, plan_length}
use Rattle.settle_check.specs.Still.{Box, fraction_unit}

-- how far number j of a box lies from 0, and at least 1
abbrev pub furthest : Box → ℕ → ℕ
furthest z j = max (max (unsigned_abs (z.low j)) (unsigned_abs (z.high j))) 1

-- what row i has of number j of the state through the plan, and together with its own
abbrev pub gains_size : Numbers → ℕ → ℕ → ℕ
gains_size c i j = amount (plan_length c) (λ l. unsigned_abs (entry_of c.state_gains l j) * unsigned_abs (entry_of c.plan_rows i l))

abbrev pub still_coefficient_size : Numbers → ℕ → ℕ → ℕ
still_coefficient_size c i j = fraction_unit c * unsigned_abs (entry_of c.state_rows i j) + gains_size c i j

-- over a box
abbrev pub over_size : Numbers → Box → ℕ → ℕ
over_size c z i = amount c.states (λ j. still_coefficient_size c i j * furthest z j)

-- what it has of offsets and floors
abbrev pub less_size : Numbers → ℕ → ℕ
less_size c i = amount (plan_length c) (λ l. unsigned_abs (entry_of c.plan_rows i l) * (unsigned_abs (at c.offsets l) + 1))

-- all of row i
abbrev pub still_size : Numbers → Box → ℕ → ℕ
still_size c z i = 2 ^ (c.fraction_bits - c.grid_bits) * over_size c z i + fraction_unit c * (less_size c i + fraction_unit c * unsigned_abs (at c.bounds i))
