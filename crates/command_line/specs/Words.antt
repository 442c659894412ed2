-- The words of a command line.
use Rattle.std.specs.Prelude.{◌≡◌, ◌≢◌, ℕ, ◌≤◌, ◌<◌, Bool, if◌then◌else◌, pos, List, [], ◌++◌, length, codes, slice_index_or}
use Rattle.std.specs.Fmt.{signed_decimal}
use Rattle.command_line.specs.ProgramName.{IsName}

-- word i, counted from 0
abbrev pub word_of : List (List ℕ) → ℕ → List ℕ
word_of words i = slice_index_or words i []

-- the words are a command's name, and with it so many
pub record IsNamed (words : List (List ℕ)) (name : List ℕ) (many : ℕ) : Type 0 where
  pub count : length words ≡ many
  pub command : word_of words 0 ≡ name

-- the name at a position stands at no other
abbrev pub IsOwnName : List (List ℕ) → ℕ → Type 0
IsOwnName words position = (i : ℕ) → 1 ≤ i → i < length words → i ≢ position → word_of words i ≢ word_of words position

-- the same, and the names at the positions of what is written, a controller or those of cells and a report, are no other's
pub record IsWriting (words : List (List ℕ)) (name : List ℕ) (many controller_at report_at : ℕ) : Type 0 where
  pub count : length words ≡ many
  pub command : word_of words 0 ≡ name
  pub controller : IsOwnName words controller_at
  pub report : IsOwnName words report_at

-- ---- the words of each command
-- the words are `solve` and the names of a controller file and of a states file
abbrev pub IsSolve : List (List ℕ) → Type 0
IsSolve words = IsNamed words (codes "solve") 3

-- the words are `generate` and the names of a design file, a policy file, a controller file and a report file; neither of the last two is another's
abbrev pub IsGenerate : List (List ℕ) → Type 0
IsGenerate words = IsWriting words (codes "generate") 5 3 4

-- the words are `list` and the names of a controller file and of a listing file; the second isn't the first
pub record IsList (words : List (List ℕ)) : Type 0 where
  pub count : length words ≡ 3
  pub command : word_of words 0 ≡ codes "list"
  pub listing_controller : word_of words 2 ≢ word_of words 1

-- the words are `stay` and the names of a design file, a policy file, a controller file, a report file and a file of faces, and of one of disturbances where
-- there are any; the third and the fourth are no other's
abbrev pub IsStay : List (List ℕ) → (disturbed : Bool) → Type 0
IsStay words disturbed = IsWriting words (codes "stay") (if disturbed then 7 else 6) 3 4

-- the words are `play` and the names of a listing file and of a states file
abbrev pub IsPlay : List (List ℕ) → Type 0
IsPlay words = IsNamed words (codes "play") 3

-- the words are `lean` and the names of a design file, a policy file, a file of reference plans, a controller file and a report file; neither of the last two
-- is another's
abbrev pub IsLean : List (List ℕ) → Type 0
IsLean words = IsWriting words (codes "lean") 6 4 5

-- the words are `lean`, the names of those five files and that of a file of faces, and of one of disturbances where there are any; the fourth and the fifth
-- are no other's
abbrev pub IsLeanStay : List (List ℕ) → (disturbed : Bool) → Type 0
IsLeanStay words disturbed = IsWriting words (codes "lean") (if disturbed then 8 else 7) 4 5

-- the words are `split` and the names of a design file, a file of cuts, a file of policies, a file of cells and a report file; neither of the last two is
-- another's
abbrev pub IsSplit : List (List ℕ) → Type 0
IsSplit words = IsWriting words (codes "split") 6 4 5

-- the words are `serve` and the names of a file of cells and of a states file
abbrev pub IsServe : List (List ℕ) → Type 0
IsServe words = IsNamed words (codes "serve") 3

-- the words are `c`, the name of a controller file, one of a program, and the names of a source file and of a header file; neither of the last two is another
-- file's
pub record IsC (words : List (List ℕ)) : Type 0 where
  pub count : length words ≡ 5
  pub command : word_of words 0 ≡ codes "c"
  pub name : IsName (word_of words 2)
  pub source_controller : word_of words 3 ≢ word_of words 1
  pub header_controller : word_of words 4 ≢ word_of words 1
  pub header_source : word_of words 4 ≢ word_of words 3

-- the words are `settle` and the names of a design file, a controller file and a certificate file, and of one of disturbances where there are any
abbrev pub IsSettle : List (List ℕ) → (disturbed : Bool) → Type 0
IsSettle words disturbed = IsNamed words (codes "settle") (if disturbed then 5 else 4)

-- a name that asks for another form of the report
abbrev pub IsJson : List ℕ → Type 0
IsJson name = (stem : List ℕ) × (name ≡ stem ++ codes ".json")

-- a word is this number in decimal, and the number at most that: digits with no sign, and no zero before others
pub record IsCount (most : ℕ) (word : List ℕ) (n : ℕ) : Type 0 where
  pub limit : n ≤ most
  pub digits : word ≡ signed_decimal (pos n)

-- the words are `loop`, the names of a design file, a controller file and a states file, this number of turns, and the name of a file of disturbances where
-- there are any
pub record IsLoop (words : List (List ℕ)) (turns : ℕ) (disturbed : Bool) : Type 0 where
  pub count : length words ≡ (if disturbed then 6 else 5)
  pub command : word_of words 0 ≡ codes "loop"
  pub last : IsCount 1000000 (word_of words 4) turns

-- the words are `demo` and this number
pub record IsDemo (words : List (List ℕ)) (number : ℕ) : Type 0 where
  pub count : length words ≡ 2
  pub command : word_of words 0 ≡ codes "demo"
  pub last : IsCount 4294967295 (word_of words 1) number
