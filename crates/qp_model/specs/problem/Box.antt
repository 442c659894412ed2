-- The box of initial states.
use Rattle.std.specs.Prelude.{ℕ, ◌-◌, ◌/◌, ◌%◌, ◌^◌, ◌<◌, ◌==◌, if◌then◌else◌, ℤ, ◌≤ℤ◌}
use Rattle.qp_model.specs.problem.Design.{Design}

-- a grid state of the box: each coordinate, over 2^grid, lies between its bounds
abbrev pub IsGridState : Design → (ℕ → ℤ) → Type 0
IsGridState d xi = (i : ℕ) → i < d.states → (d.low i ≤ℤ xi i) × (xi i ≤ℤ d.high i)

-- corner number c, from 1 to 2^states: coordinate i, from 0, is high where the bit of value 2^i in c - 1 is set
abbrev pub corner : Design → ℕ → ℕ → ℤ
corner d c i = if (c - 1) / 2 ^ i % 2 == 1 then d.high i else d.low i
