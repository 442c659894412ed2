-- Which lines can stand after others in a listing.
use Rattle.std.specs.Prelude.{◌≡◌, ◌⊎◌, ℕ, suc, zero, ◌+◌, ◌*◌, ◌^◌, ◌<◌, ◌≤◌, ℤ, pos, ◌≤ℤ◌, List, [], ◌∷◌, length, codes, All}
use Rattle.integer_algebra.specs.Sums.{at}
use Rattle.qp_model.specs.problem.Range.{LiesIn, IsNumerator}
use Rattle.qp_model.specs.problem.PartRules.{AreHighs}
use Rattle.text_lines.specs.Lines.{Keyed, keyed_line, place, place_of, line_in}
use Rattle.mac_listing.specs.Listing.{IsOp}
use Rattle.mac_listing.specs.Text.{op_keyed}
use Rattle.mac_listing.specs.Reading.{small_at, small_in, op_in}

-- ---- the lines of the head
abbrev pub IsVersion : Keyed → Type 0
IsVersion l = l ≡ keyed_line (codes "mpc-listing") (pos 1 ∷ [])

abbrev pub IsWordWidth : Keyed → Type 0
IsWordWidth l = (l ≡ keyed_line (codes "word") (pos (small_at l 0) ∷ [])) × LiesIn 2 128 (small_at l 0)

abbrev pub IsInput : Keyed → Type 0
IsInput l = (l ≡ keyed_line (codes "input") (pos (small_at l 0) ∷ pos (small_at l 1) ∷ [])) × LiesIn 1 6 (small_at l 0) × (small_at l 1 ≤ 48)

abbrev pub IsLow : (states : ℕ) → Keyed → Type 0
IsLow states l = (place_of l ≡ place (codes "lo") states) × All IsNumerator l.numbers

abbrev pub IsHigh : (low : List ℤ) → Keyed → Type 0
IsHigh low l = (place_of l ≡ place (codes "hi") (length low)) × AreHighs l.numbers low (length low)

abbrev pub IsWords : (states : ℕ) → Keyed → Type 0
IsWords states l = (l ≡ keyed_line (codes "words") (pos (small_at l 0) ∷ [])) × LiesIn states 1000 (small_at l 0)

abbrev pub AreOutputs : (words first outputs : ℕ) → ℤ → Type 0
AreOutputs words first outputs over = (1 ≤ outputs) × (first + outputs ≤ words) × (pos 1 ≤ℤ over) × (over ≤ℤ pos (2 ^ 126))

abbrev pub IsOutput : (words : ℕ) → Keyed → Type 0
IsOutput words l =
    (l ≡ keyed_line (codes "output") (pos (small_at l 0) ∷ pos (small_at l 1) ∷ at l.numbers 2 ∷ []))
    × AreOutputs words (small_at l 0) (small_at l 1) (at l.numbers 2)

abbrev pub IsRepeat : Keyed → Type 0
IsRepeat l =
    (l ≡ keyed_line (codes "repeat") (pos (small_at l 0) ∷ pos (small_at l 1) ∷ []))
    × LiesIn 1 4194304 (small_at l 0) × LiesIn 1 100000 (small_at l 1)

abbrev pub IsBodyCount : (repetitions count : ℕ) → Keyed → Type 0
IsBodyCount repetitions count l = l ≡ keyed_line (codes "count") (pos (repetitions * count) ∷ [])

-- the line after so many others
abbrev pub IsHeadLine : ℕ → List Keyed → Keyed → Type 0
IsHeadLine zero ls l = IsVersion l
IsHeadLine (suc zero) ls l = IsWordWidth l
IsHeadLine (suc (suc zero)) ls l = IsInput l
IsHeadLine (suc (suc (suc zero))) ls l = IsLow (small_in ls 2 0) l
IsHeadLine (suc (suc (suc (suc zero)))) ls l = IsHigh (line_in ls 3) l
IsHeadLine (suc (suc (suc (suc (suc zero))))) ls l = IsWords (small_in ls 2 0) l
IsHeadLine (suc (suc (suc (suc (suc (suc zero)))))) ls l = IsOutput (small_in ls 5 0) l
IsHeadLine (suc (suc (suc (suc (suc (suc (suc zero))))))) ls l = IsRepeat l
IsHeadLine (suc (suc (suc (suc (suc (suc (suc (suc n)))))))) ls l = IsBodyCount (small_in ls 7 0) (small_in ls 7 1) l

-- ---- the lines after it
abbrev pub IsOpLine : (words : ℕ) → Keyed → Type 0
IsOpLine words l = (l ≡ op_keyed (op_in l)) × IsOp words (op_in l)

abbrev pub IsEnd : Keyed → Type 0
IsEnd l = l ≡ keyed_line (codes "end") []

-- an instruction, or the end after so many
abbrev pub IsBodyLine : ℕ → List Keyed → Keyed → Type 0
IsBodyLine n ls l = ((n < 9 + small_in ls 7 1) × IsOpLine (small_in ls 5 0) l) ⊎ ((n ≡ 9 + small_in ls 7 1) × IsEnd l)
