-- The one text of a controller, and the line of a plan.
use Rattle.std.specs.Prelude.{◌≡◌, ℕ, ℤ, pos, List, [], ◌∷◌, ◌++◌, map, codes, ◌==◌, if◌then◌else◌}
use Rattle.mat_int.specs.Matrix.{Matrix}
use Rattle.qp_model.specs.problem.Limits.{text_version}
use Rattle.qp_model.specs.machine.Controller.{Numbers, FitsWord}
use Rattle.qp_model.specs.machine.AbsoluteSums.{IsController}
use Rattle.number_text.specs.Lines.{spaced, line_of, text_of}
use Rattle.qp_model.specs.machine.Machine.{average_denominator, averaged_plan}

-- a line for each row
abbrev pub matrix_lines : List ℕ → Matrix → List (List ℕ)
matrix_lines key a = map (line_of key) a.rows

-- the exponents of the rows, which a text of the first version doesn't say
abbrev pub exponent_lines : Numbers → List (List ℕ)
exponent_lines c = if c.version == text_version then [] else line_of (codes "exps") (map pos c.exponents) ∷ []

abbrev pub controller_lines : Numbers → List (List ℕ)
controller_lines c =
    line_of (codes "mpc-controller") (pos c.version ∷ [])
    ∷ line_of (codes "size") (pos c.states ∷ pos c.inputs ∷ pos c.stages ∷ pos c.rows ∷ [])
    ∷ line_of (codes "bits") (pos c.fraction_bits ∷ pos c.grid_bits ∷ pos c.step_exponent ∷ pos c.width ∷ [])
    ∷ line_of (codes "steps") (pos c.steps ∷ [])
    ∷ line_of (codes "clamp") (c.clamp ∷ [])
    ∷ line_of (codes "words") (pos c.words ∷ [])
    ∷ exponent_lines c ++ line_of (codes "lo") c.low
    ∷ line_of (codes "hi") c.high
    ∷ matrix_lines (codes "P") c.state_gains ++ line_of (codes "T") c.offsets ∷ [] ++ matrix_lines (codes "W") c.dual_gains
    ++ matrix_lines (codes "G") c.plan_rows ++ matrix_lines (codes "E") c.state_rows ++ line_of (codes "b") c.bounds ∷ codes "end" ∷ []

abbrev pub controller_text : Numbers → List ℕ
controller_text c = text_of (controller_lines c)

-- the bytes are the text of this controller
pub record IsControllerText (bytes : List ℕ) (c : Numbers) : Type 0 where
  pub controller : IsController c
  pub word : FitsWord c
  pub text : bytes ≡ controller_text c

-- the denominator and the numerators of the averaged plan from a grid state
abbrev pub plan_line : Numbers → List ℤ → List ℕ
plan_line c xi = spaced (pos (average_denominator c) ∷ averaged_plan c xi) ++ 10 ∷ []
