-- Grammars of lines: which lists of lines are all lines of a text, and which lines texts begin with.
use Rattle.std.specs.Prelude.{◌≡◌, ℕ, suc, ◌<◌, ◌≤◌, ◌-◌, ◌^◌, List, [], ◌++◌, length, map, take, All}
use Rattle.number_text.specs.Lines.{text_of}
use Rattle.text_lines.specs.Lines.{Keyed, spelled, IsKeyedLine}

-- the bytes are a text with such lines
pub record IsTextOf (Whole : List Keyed → Type 0) (bytes : List ℕ) : Type 0 where
  pub lines : List Keyed
  pub whole : Whole lines
  pub text : bytes ≡ text_of (map spelled lines)

-- some text begins with these lines
pub record IsBeginning (Whole : List Keyed → Type 0) (ls : List Keyed) : Type 0 where
  pub more : List Keyed
  pub whole : Whole (ls ++ more)

-- there is a text, each line of a text can be read, and a text's lines are fewer than a number of 32 bits counts
pub record IsGrammar (Whole : List Keyed → Type 0) : Type 0 where
  pub some : IsBeginning Whole []
  pub each : (ls : List Keyed) → Whole ls → All IsKeyedLine ls
  pub few : (ls : List Keyed) → Whole ls → length ls < 2 ^ 32 - 1

-- so many pieces, from the first, are lines with which a text begins
pub record BeginsWith (Whole : List Keyed → Type 0) (pieces : List (List ℕ)) (count : ℕ) : Type 0 where
  pub lines : List Keyed
  pub beginning : IsBeginning Whole lines
  pub within : count ≤ length pieces
  pub spelling : map spelled lines ≡ take count pieces

-- the most pieces, from the first, that are such lines
pub record IsMost (Whole : List Keyed → Type 0) (pieces : List (List ℕ)) (count : ℕ) : Type 0 where
  pub these : BeginsWith Whole pieces count
  pub no_more : ¬ BeginsWith Whole pieces (suc count)
