-- The one text of a listing.
use Rattle.std.specs.Prelude.{◌≡◌, ℕ, ◌*◌, pos, List, [], ◌∷◌, ◌++◌, length, map, codes, All, FitsSigned}
use Rattle.std.specs.Int.{w128}
use Rattle.number_text.specs.Lines.{line_of, text_of}
use Rattle.text_lines.specs.Lines.{Keyed, keyed_line, spelled}
use Rattle.mac_listing.specs.declared.instruction.Op.{Op}
use Rattle.mac_listing.specs.declared.instruction.Op.TheVariants.{Clear, Load, Store, Mac, Con, AddM, Shl, Shr, Neg, Low, Cap}
use Rattle.mac_listing.specs.Listing.{Instructions, IsListing}

-- ---- lines
abbrev pub op_keyed : Op → Keyed
op_keyed Clear = keyed_line (codes "clear") []
op_keyed (Load a) = keyed_line (codes "load") (pos a ∷ [])
op_keyed (Store a) = keyed_line (codes "store") (pos a ∷ [])
op_keyed (Mac a c k) = keyed_line (codes "mac") (pos a ∷ c ∷ pos k ∷ [])
op_keyed (Con c k) = keyed_line (codes "con") (c ∷ pos k ∷ [])
op_keyed (AddM a) = keyed_line (codes "addm") (pos a ∷ [])
op_keyed (Shl k) = keyed_line (codes "shl") (pos k ∷ [])
op_keyed (Shr k) = keyed_line (codes "shr") (pos k ∷ [])
op_keyed Neg = keyed_line (codes "neg") []
op_keyed Low = keyed_line (codes "low") []
op_keyed (Cap c) = keyed_line (codes "cap") (c ∷ [])

-- those before the body
abbrev pub head_keyed : Instructions → List Keyed
head_keyed l =
    keyed_line (codes "mpc-listing") (pos 1 ∷ [])
    ∷ keyed_line (codes "word") (pos l.width ∷ [])
    ∷ keyed_line (codes "input") (pos l.states ∷ pos l.shift ∷ [])
    ∷ keyed_line (codes "lo") l.low
    ∷ keyed_line (codes "hi") l.high
    ∷ keyed_line (codes "words") (pos l.words ∷ [])
    ∷ keyed_line (codes "output") (pos l.first ∷ pos l.outputs ∷ l.denominator ∷ [])
    ∷ keyed_line (codes "repeat") (pos l.repetitions ∷ pos (length l.body) ∷ [])
    ∷ keyed_line (codes "count") (pos (l.repetitions * length l.body) ∷ []) ∷ []

abbrev pub keyed_listing : Instructions → List Keyed
keyed_listing l = head_keyed l ++ map op_keyed l.body ++ keyed_line (codes "end") [] ∷ []

-- their bytes
abbrev pub op_line : Op → List ℕ
op_line op = spelled (op_keyed op)

abbrev pub head_lines : Instructions → List (List ℕ)
head_lines l = map spelled (head_keyed l)

abbrev pub listing_lines : Instructions → List (List ℕ)
listing_lines l = head_lines l ++ map op_line l.body ++ line_of (codes "end") [] ∷ []

abbrev pub listing_text : Instructions → List ℕ
listing_text l = text_of (listing_lines l)

-- ---- texts
-- its constant fits a word of 128 bits
abbrev pub OpFitsWord : Op → Type 0
OpFitsWord (Mac a c k) = FitsSigned w128 c
OpFitsWord (Con c k) = FitsSigned w128 c
OpFitsWord (Cap c) = FitsSigned w128 c
OpFitsWord op = Unit {0}

-- the bytes are the text of this listing
pub record IsListingText (bytes : List ℕ) (l : Instructions) : Type 0 where
  pub listing : IsListing l
  pub word : All OpFitsWord l.body
  pub text : bytes ≡ listing_text l
