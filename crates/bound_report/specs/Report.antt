-- The texts of a report.
use Rattle.std.specs.Prelude.{ℕ, suc, ℤ, pos, Bool, List, [], ◌∷◌, ◌++◌, ◌==◌, if◌then◌else◌, map, codes}
use Rattle.std.specs.List.{join_with_byte}
use Rattle.std.specs.Fmt.{signed_decimal}
use Rattle.number_text.specs.Lines.{line_of, text_of}
use Rattle.qp_model.specs.bounds.Printed.{Printed}

-- the greatest cost, or for a lean controller the greatest excess, which is over 2^16
abbrev pub cost_line : Printed → List ℕ
cost_line b = if b.lean then line_of (codes "excess") (b.cost ∷ pos 65536 ∷ []) else line_of (codes "cost") (b.cost ∷ [])

-- a word and its number each, the version first, and beside a number that is over 2^16 that power
abbrev pub report_head : Printed → List (List ℕ)
report_head b =
    line_of (codes "mpc-report") (pos b.version ∷ [])
    ∷ line_of (codes "margin") (b.margin ∷ pos 65536 ∷ [])
    ∷ cost_line b
    ∷ line_of (codes "multiplier") (b.multiplier ∷ [])
    ∷ line_of (codes "step") (pos b.step ∷ [])
    ∷ line_of (codes "steps") (pos b.steps ∷ [])
    ∷ line_of (codes "bits") (pos b.bits ∷ [])
    ∷ line_of (codes "width") (pos b.width ∷ [])
    ∷ line_of (codes "words") (pos b.words ∷ [])
    ∷ []

-- a line for each row, with its number, the first of which is i
abbrev pub numbered_violations : ℕ → List ℤ → List (List ℕ)
numbered_violations i [] = []
numbered_violations i (v ∷ vs) = line_of (codes "violation") (pos i ∷ v ∷ pos 1099511627776 ∷ []) ∷ numbered_violations (suc i) vs

-- in version 1 the violation of all rows, and else that of each, the first of which is row 1
abbrev pub violation_lines : Printed → List (List ℕ)
violation_lines b = if b.version == 1 then line_of (codes "violation") (b.violation ∷ pos 1099511627776 ∷ []) ∷ [] else numbered_violations 1 b.row_violations

-- what is promised, over 2^40
abbrev pub bound_lines : Printed → List (List ℕ)
bound_lines b =
    violation_lines b
    ++ line_of (codes "gap") (b.gap ∷ pos 1099511627776 ∷ [])
    ∷ line_of (codes "undercut") (b.undercut ∷ pos 1099511627776 ∷ [])
    ∷ []

-- all lines, each with its line feed
abbrev pub report_text : Printed → List ℕ
report_text b = text_of (report_head b ++ bound_lines b ++ codes "end" ∷ [])

-- ---- as JSON

-- what stands under a key: a number, or one for each row
pub data Figure : Type 0 where
  One : ℤ → Figure
  Each : List ℤ → Figure

-- the key of the cost, or of the excess
abbrev pub cost_key : Bool → List ℕ
cost_key lean = if lean then codes "excess" else codes "cost"

-- keys and their figures up to the violation of all rows; the margin and the excess are over 2^16, and what is promised over 2^40
abbrev pub first_members : Printed → List (List ℕ × Figure)
first_members b =
    (codes "bits", One (pos b.bits))
    ∷ (cost_key b.lean, One b.cost)
    ∷ (codes "gap", One b.gap)
    ∷ (codes "margin", One b.margin)
    ∷ (codes "multiplier", One b.multiplier)
    ∷ (codes "step", One (pos b.step))
    ∷ (codes "steps", One (pos b.steps))
    ∷ (codes "undercut", One b.undercut)
    ∷ (codes "version", One (pos b.version))
    ∷ (codes "violation", One b.violation)
    ∷ []

-- in version 1 none, and else the violations of the rows, over 2^40
abbrev pub row_members : Printed → List (List ℕ × Figure)
row_members b = if b.version == 1 then [] else (codes "violations", Each b.row_violations) ∷ []

-- those after it
abbrev pub last_members : Printed → List (List ℕ × Figure)
last_members b = (codes "width", One (pos b.width)) ∷ (codes "words", One (pos b.words)) ∷ []

-- all of them, in the order of the keys
abbrev pub json_members : Printed → List (List ℕ × Figure)
json_members b = first_members b ++ row_members b ++ last_members b

-- the number in decimal, between quotes
abbrev pub number_string : ℤ → List ℕ
number_string z = codes "\"" ++ signed_decimal z ++ codes "\""

-- the number, or the numbers between brackets, a comma between two
abbrev pub figure_text : Figure → List ℕ
figure_text (One z) = number_string z
figure_text (Each zs) = codes "[" ++ join_with_byte 44 (map number_string zs) ++ codes "]"

-- the key between quotes, a colon and the figure
abbrev pub member : List ℕ → Figure → List ℕ
member key f = codes "\"" ++ key ++ codes "\":" ++ figure_text f

-- the members between braces, a comma between two, and a line feed
abbrev pub report_json : Printed → List ℕ
report_json b = codes "{" ++ join_with_byte 44 (map (λ m. member m.0 m.1) (json_members b)) ++ codes "}\n"
