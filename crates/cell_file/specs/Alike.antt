-- A line of a controller that can be like another.
use Rattle.std.specs.Prelude.{◌≡◌, ℕ, zero, suc, ◌≤◌, ℤ, pos, List}
use Rattle.integer_algebra.specs.Sums.{at}
use Rattle.qp_model.specs.problem.Limits.{most_states, most_stages}
use Rattle.qp_model.specs.machine.Controller.{Numbers}
use Rattle.text_lines.specs.Lines.{small}

-- the version allows the sizes of this controller, the sizes are its, and so is the grid; index is that of the line among those of its controller
abbrev pub IsAlikeLine : Numbers → (index : ℕ) → List ℤ → Type 0
IsAlikeLine c zero zs = (c.states ≤ most_states (small (at zs 0))) × (c.stages ≤ most_stages (small (at zs 0)))
IsAlikeLine c (suc zero) zs = (at zs 0 ≡ pos c.states) × (at zs 1 ≡ pos c.inputs) × (at zs 2 ≡ pos c.stages)
IsAlikeLine c (suc (suc zero)) zs = at zs 1 ≡ pos c.grid_bits
IsAlikeLine c (suc (suc (suc index))) zs = Unit {0}
