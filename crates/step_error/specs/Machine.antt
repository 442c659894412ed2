-- The machine's numbers, as the method's.
use Rattle.std.specs.Prelude.{ℕ, ◌+◌, ◌-◌, ◌^◌, ℤ, pos, ◌*ℤ◌, List, nat_lt, ◌==◌, if◌then◌else◌}
use Rattle.integer_algebra.specs.Sums.{at}
use Rattle.qp_model.specs.machine.Controller.{Numbers}

-- what the gains of each column are times, over 2^(2 fraction_bits + step_exponent): the state, 1, and the multipliers, which are over
-- 2^(fraction_bits + step_exponent)
abbrev pub pulls : Numbers → (state multipliers : List ℤ) → ℕ → ℤ
pulls c state multipliers i =
    if nat_lt i c.states then pos (2 ^ c.step_exponent) *ℤ at state i
    else if i == c.states then pos (2 ^ (c.fraction_bits + c.step_exponent))
    else at multipliers (i - (c.states + 1))
