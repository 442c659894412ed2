-- The lines of a controller.
use Rattle.std.specs.Prelude.{pos, List, [], ◌∷◌, map, codes, ◌==◌, if◌then◌else◌}
use Rattle.qp_model.specs.problem.Limits.{text_version}
use Rattle.qp_model.specs.machine.Controller.{Numbers}
use Rattle.text_lines.specs.Lines.{Keyed, keyed_line}
use Rattle.text_lines.specs.Blocks.{row_lines, chained}

-- the exponents of the rows, which a text of the first version doesn't say
abbrev pub keyed_exponents : Numbers → List Keyed
keyed_exponents c = if c.version == text_version then [] else keyed_line (codes "exps") (map pos c.exponents) ∷ []

-- the lines of a controller in their order, those with one word together
abbrev pub line_blocks : Numbers → List (List Keyed)
line_blocks c =
    (keyed_line (codes "mpc-controller") (pos c.version ∷ []) ∷ [])
    ∷ (keyed_line (codes "size") (pos c.states ∷ pos c.inputs ∷ pos c.stages ∷ pos c.rows ∷ []) ∷ [])
    ∷ (keyed_line (codes "bits") (pos c.fraction_bits ∷ pos c.grid_bits ∷ pos c.step_exponent ∷ pos c.width ∷ []) ∷ [])
    ∷ (keyed_line (codes "steps") (pos c.steps ∷ []) ∷ [])
    ∷ (keyed_line (codes "clamp") (c.clamp ∷ []) ∷ [])
    ∷ (keyed_line (codes "words") (pos c.words ∷ []) ∷ [])
    ∷ keyed_exponents c
    ∷ (keyed_line (codes "lo") c.low ∷ [])
    ∷ (keyed_line (codes "hi") c.high ∷ [])
    ∷ row_lines (codes "P") c.state_gains.rows
    ∷ (keyed_line (codes "T") c.offsets ∷ [])
    ∷ row_lines (codes "W") c.dual_gains.rows
    ∷ row_lines (codes "G") c.plan_rows.rows
    ∷ row_lines (codes "E") c.state_rows.rows
    ∷ (keyed_line (codes "b") c.bounds ∷ [])
    ∷ (keyed_line (codes "end") [] ∷ []) ∷ []

abbrev pub keyed_lines : Numbers → List Keyed
keyed_lines c = chained (line_blocks c)
