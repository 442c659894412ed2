-- Lines as words and numbers.
use Rattle.std.specs.Prelude.{ℕ, ◌<◌, ◌^◌, ℤ, pos, negsuc, List, [], length, map, All, FitsSigned, if◌then◌else◌, nat_lt, slice_index_or}
use Rattle.std.specs.Int.{w128}
use Rattle.number_text.specs.Lines.{line_of}
use Rattle.text_lines.specs.declared.line.Line.{Line}

-- a line's word and its numbers
pub record Keyed : Type 0 where
  pub key : List ℕ
  pub numbers : List ℤ

abbrev pub keyed_line : List ℕ → List ℤ → Keyed
keyed_line key numbers = record { key = key; numbers = numbers }

-- a line without where it lies in memory
abbrev pub view : Line → Keyed
view l = keyed_line l.key.now l.numbers.items

abbrev pub views : List Line → List Keyed
views ls = map view ls

-- the bytes of a line, but for its line feed
abbrev pub spelled : Keyed → List ℕ
spelled l = line_of l.key l.numbers

-- each of its numbers fits a word of 128 bits
abbrev pub Fits : Keyed → Type 0
Fits l = All (FitsSigned w128) l.numbers

-- its word has neither a space nor a line feed, and its numbers fit
pub record IsKeyedLine (l : Keyed) : Type 0 where
  pub key : All (λ b. 32 < b) l.key
  pub fits : Fits l

-- a word and how many numbers are after it
pub record Place : Type 0 where
  pub key : List ℕ
  pub count : ℕ

abbrev pub place : List ℕ → ℕ → Place
place key count = record { key = key; count = count }

abbrev pub place_of : Keyed → Place
place_of l = place l.key (length l.numbers)

-- ---- reading

abbrev pub no_line : Keyed
no_line = keyed_line [] []

-- the numbers of a line, none where there is no such line
abbrev pub line_in : List Keyed → ℕ → List ℤ
line_in ls i = (slice_index_or ls i no_line).numbers

-- as a number of 32 bits
abbrev pub small : ℤ → ℕ
small (pos n) = if nat_lt n (2 ^ 32) then n else 0
small (negsuc n) = 0
