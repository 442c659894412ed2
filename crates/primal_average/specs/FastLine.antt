-- The line of a plan by its numbers, and that of the averaged plan of an accelerated run.
use Rattle.std.specs.Prelude.{ℕ, ℤ, pos, List, [], ◌∷◌, ◌++◌}
use Rattle.number_text.specs.Lines.{spaced}
use Rattle.qp_model.specs.machine.Controller.{Numbers}
use Rattle.overflow_check.specs.FastMachine.{fast_denominator, fast_plan}

abbrev pub line_of_plan : (denominator : ℤ) (numerators : List ℤ) → List ℕ
line_of_plan denominator numerators = spaced (denominator ∷ numerators) ++ 10 ∷ []

-- the denominator and the numerators of the averaged plan of an accelerated run from a grid state
abbrev pub fast_plan_line : Numbers → List ℤ → List ℕ
fast_plan_line c xi = line_of_plan (pos (fast_denominator c)) (fast_plan c xi)
