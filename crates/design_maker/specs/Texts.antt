-- The bytes of a made design's three texts.
use Rattle.std.specs.Prelude.{ℕ, ◌*◌, ℤ, pos, neg_ℤ, List, [], ◌∷◌, ◌++◌, map, codes, replicate}
use Rattle.std.specs.Fmt.{decimal, signed_decimal}
use Rattle.number_text.specs.Lines.{text_of}
use Rattle.qp_model.specs.text.StateText.{comma_separated}
use Rattle.design_maker.specs.declared.draws.Drawn.{Drawn}
use Rattle.design_maker.specs.Draws.{drawn}

-- each with a comma and a space before it
abbrev pub other_lines : List (List ℕ) → List ℕ
other_lines [] = []
other_lines (word ∷ words) = codes ", " ++ word ++ other_lines words

-- in brackets, with a comma and a space between two
abbrev pub bracketed : List (List ℕ) → List ℕ
bracketed [] = codes "[]"
bracketed (word ∷ words) = codes "[" ++ word ++ other_lines words ++ codes "]"

-- a list of numbers, and a list of such lists
abbrev pub list_text : List ℤ → List ℕ
list_text zs = bracketed (map signed_decimal zs)

abbrev pub rows_text : List (List ℤ) → List ℕ
rows_text rows = bracketed (map list_text rows)

-- ---- the design
abbrev pub plant_rows : Drawn → List (List ℤ)
plant_rows d = (d.a11 ∷ d.a12 ∷ []) ∷ (d.a21 ∷ d.a22 ∷ []) ∷ []

abbrev pub input_weights : Drawn → List ℤ
input_weights d = d.first_input ∷ d.second_input ∷ []

abbrev pub cost_rows : Drawn → List (List ℤ)
cost_rows d = (pos 1 ∷ pos 0 ∷ d.first_target ∷ d.first_weight ∷ []) ∷ (pos 0 ∷ pos 1 ∷ d.second_target ∷ d.second_weight ∷ []) ∷ []

-- the sizes and the plant
abbrev pub plant_lines : Drawn → ℕ → List (List ℕ)
plant_lines d stages =
    codes "version = 1"
    ∷ codes "states = 2"
    ∷ codes "inputs = 2"
    ∷ (codes "stages = " ++ decimal stages)
    ∷ codes "[plant]"
    ∷ codes "den = 4"
    ∷ (codes "a = " ++ rows_text (plant_rows d))
    ∷ codes "b = [[4, 0], [0, 4]]"
    ∷ []

abbrev pub cost_lines : Drawn → List (List ℕ)
cost_lines d =
    codes "[cost]"
    ∷ codes "den = 1"
    ∷ codes "row_den = 1"
    ∷ (codes "input = " ++ list_text (input_weights d))
    ∷ (codes "stage = " ++ rows_text (cost_rows d))
    ∷ codes "final = []"
    ∷ []

-- the limits, the box and the targets, which are the same in each
abbrev pub limit_lines : List (List ℕ)
limit_lines =
    codes "[limits]"
    ∷ codes "den = 4"
    ∷ codes "stage = [[0, 0, 4, 0, 4], [0, 0, -4, 0, 4], [0, 0, 0, 4, 4], [0, 0, 0, -4, 4], [4, 0, 0, 0, 5], [-4, 0, 0, 0, 5], [0, 4, 0, 0, 5], [0, -4, 0, 0, 5]]"
    ∷ codes "final = [[4, 0, 5], [-4, 0, 5], [0, 4, 5], [0, -4, 5]]"
    ∷ codes "[box]"
    ∷ codes "grid = 4"
    ∷ codes "lo = [-16, -16]"
    ∷ codes "hi = [16, 16]"
    ∷ codes "[targets]"
    ∷ codes "den = 4"
    ∷ codes "violation = 1"
    ∷ codes "gap = 4"
    ∷ []

abbrev pub design_lines : Drawn → ℕ → List (List ℕ)
design_lines d stages = plant_lines d stages ++ cost_lines d ++ limit_lines

unfoldable pub design_text : ℕ → ℕ → List ℕ
design_text seed stages = text_of (design_lines (drawn seed) stages)

-- ---- its policy: for each of the four corners the denominator 1, and two numerators 0 for each stage
unfoldable pub policy_line : ℕ → List ℕ
policy_line stages = comma_separated (pos 1 ∷ replicate (2 * stages) (pos 0))

unfoldable pub policy_text : ℕ → List ℕ
policy_text stages = text_of (replicate 4 (policy_line stages))

-- ---- the corners of its box
abbrev pub corner_states : List (List ℤ)
corner_states = (neg_ℤ (pos 16) ∷ neg_ℤ (pos 16) ∷ []) ∷ (pos 16 ∷ neg_ℤ (pos 16) ∷ []) ∷ (neg_ℤ (pos 16) ∷ pos 16 ∷ []) ∷ (pos 16 ∷ pos 16 ∷ []) ∷ []

unfoldable pub states_text : List ℕ
states_text = text_of (map comma_separated corner_states)
