-- The lines of a closed loop.
use Rattle.std.specs.Prelude.{ℕ, zero, suc, ◌+◌, ℤ, pos, List, [], ◌∷◌, ◌++◌, take}
use Rattle.qp_model.specs.problem.Design.{Design}
use Rattle.qp_model.specs.machine.Controller.{Numbers}
use Rattle.qp_model.specs.machine.Machine.{average_denominator, averaged_plan}
use Rattle.number_text.specs.Lines.{spaced}
use Rattle.qp_model.specs.machine.Successor.{state_after}

-- the record, the turn, the state, and the first inputs of the averaged plan with their denominator
abbrev pub loop_line : Numbers → (entry turn : ℕ) → List ℤ → List ℕ
loop_line c entry turn xi =
    spaced (pos entry ∷ pos turn ∷ xi ++ pos (average_denominator c) ∷ take c.inputs (averaged_plan c xi)) ++ 10 ∷ []

-- the lines of the first turns
unfoldable pub loop_text : Design → Numbers → ℕ → List ℤ → ℕ → List ℕ
loop_text d c entry start zero = []
loop_text d c entry start (suc k) = loop_text d c entry start k ++ loop_line c entry (k + 1) (state_after d c start k)
