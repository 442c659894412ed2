-- What `stay` says of a loop, with and without disturbances in the file with the name 6, and `lean` by the accelerated machine, with the name 7.
use Rattle.std.proofs.Common.{◌≡◌, ℕ, true, false, ℤ, pos, List, [], ◌∷◌, Some, None, refl}
use Rattle.io_edge.specs.Faults.{Files}
use Rattle.integer_algebra.specs.Sums.{at, none}
use Rattle.mat_int.specs.Matrix.{row_of, zero_matrix}
use Rattle.qp_model.specs.problem.Parts.{design_of}
use Rattle.qp_model.specs.machine.Controller.{Numbers}
use Rattle.qp_model.specs.machine.Machine.{IsAdmissible, exponent_of}
use Rattle.qp_model.specs.machine.Successor.{state_after}
use Rattle.qp_model.specs.bounds.Printed.{Printed}
use Rattle.qp_model.specs.declared.design_parts.DesignParts.{DesignParts}
use Rattle.stay_check.specs.LoopStay.{state_under, AreShiftsUpTo, IsKeptAt}
use Rattle.command_make.specs.Loops.Looping.{looping_of_fast, state_by}
use Rattle.command_line.specs.Answers.{FileHolds}
use Rattle.command_files.specs.Texts.{RangeRight}
use Rattle.command_make.specs.FastEngine.FastCertified.{IsFastCertifiedAt}
use Rattle.command_make.specs.Excess.{made_excess}
use Rattle.command_make.specs.Stay.{LoopsStay, FastLoopsStay}

abbrev named : List (List ℕ)
named = [] ∷ (1 ∷ []) ∷ (2 ∷ []) ∷ (3 ∷ []) ∷ (4 ∷ []) ∷ (5 ∷ []) ∷ (6 ∷ []) ∷ []

-- those of `lean`
abbrev leaned : List (List ℕ)
leaned = [] ∷ (1 ∷ []) ∷ (2 ∷ []) ∷ (3 ∷ []) ∷ (4 ∷ []) ∷ (5 ∷ []) ∷ (6 ∷ []) ∷ (7 ∷ []) ∷ []

range_in_the_sixth : (files : Files) (p : DesignParts) (c : Numbers) (b : Printed) (it : LoopsStay true 6 named files p c b) →
    FileHolds 4194304 (RangeRight (design_of p).states it.range) (files (6 ∷ []))
range_in_the_sixth files p c b it = it.is_range

no_range : (files : Files) (p : DesignParts) (c : Numbers) (b : Printed) (it : LoopsStay false 6 named files p c b) → it.range ≡ zero_matrix 2 (design_of p).states
no_range files p c b it = it.is_range

-- the first record of the range is the least shift, and the second the greatest
under_every_shift : (files : Files) (p : DesignParts) (c : Numbers) (b : Printed) (it : LoopsStay true 6 named files p c b) →
    (start : List ℤ) → IsAdmissible c start → (shifts : ℕ → ℕ → ℤ) → (turns : ℕ) → AreShiftsUpTo (design_of p) (at (row_of it.range 0)) (at (row_of it.range 1)) shifts turns →
    IsKeptAt (design_of p) c b (state_under (design_of p) c start shifts turns)
under_every_shift files p c b it = it.stays

-- without disturbances, as `loop` runs it
as_loop_runs : (files : Files) (p : DesignParts) (c : Numbers) (b : Printed) (it : LoopsStay false 6 named files p c b) →
    (start : List ℤ) → IsAdmissible c start → (turns : ℕ) → IsKeptAt (design_of p) c b (state_after (design_of p) c start turns)
as_loop_runs files p c b it = it.undisturbed refl

-- ---- of the accelerated machine
fast_range_in_the_seventh : (files : Files) (p : DesignParts) (c : Numbers) (b : Printed) (it : FastLoopsStay true 7 leaned files p c b) →
    FileHolds 4194304 (RangeRight (design_of p).states it.range) (files (7 ∷ []))
fast_range_in_the_seventh files p c b it = it.is_range

-- the states are those of the loop by that machine, and it is certified there
fast_under_every_shift : (files : Files) (p : DesignParts) (c : Numbers) (b : Printed) (it : FastLoopsStay true 7 leaned files p c b) →
    (start : List ℤ) → IsAdmissible c start → (shifts : ℕ → ℕ → ℤ) → (turns : ℕ) → AreShiftsUpTo (design_of p) (at (row_of it.range 0)) (at (row_of it.range 1)) shifts turns →
    IsAdmissible c (state_by (design_of p) (looping_of_fast c) start shifts turns) × IsFastCertifiedAt (design_of p) c b (state_by (design_of p) (looping_of_fast c) start shifts turns)
fast_under_every_shift files p c b it start inside shifts turns within = let kept = it.stays start inside shifts turns within in (kept.inside, kept.certified)

fast_as_loop_runs : (files : Files) (p : DesignParts) (c : Numbers) (b : Printed) (it : FastLoopsStay false 7 leaned files p c b) →
    (start : List ℤ) → IsAdmissible c start → (turns : ℕ) → IsAdmissible c (state_by (design_of p) (looping_of_fast c) start (λ k. none) turns)
fast_as_loop_runs files p c b it start inside turns = (it.undisturbed refl start inside turns).inside

-- the number of a row with the step exponent 1, where R is 2: half the target, 2^44 / (18 * 21) of the steps, and a quarter of what the errors cost
excess_of_a_row : (c : Numbers) → exponent_of c 0 ≡ 1 → c.steps ≡ 18 → made_excess true (Some (pos 109951162777)) c (pos 2) (pos 8078352384) 0 ≡ pos 103535344206
excess_of_a_row c exponent steps = rw (exponent, steps) refl

-- without reference plans, where R is 8: the printed violation, of the printed gap
excess_by_margin : (c : Numbers) → exponent_of c 0 ≡ 1 → c.step_exponent ≡ 1 → c.steps ≡ 50 → made_excess true None c (pos 8) (pos 180409860096) 0 ≡ pos 75659718684
excess_by_margin c row exponent steps = rw (row, exponent, steps) refl
