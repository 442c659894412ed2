-- A listing from its lines.
use Rattle.std.specs.Prelude.{ℕ, Bool, true, false, ◌-◌, List, [], ◌∷◌, length, map, take, drop, codes, ◌==◌, ◌&&◌, if◌then◌else◌}
use Rattle.integer_algebra.specs.Sums.{at}
use Rattle.text_lines.specs.Lines.{Keyed, line_in, small}
use Rattle.mac_listing.specs.declared.instruction.Op.{Op}
use Rattle.mac_listing.specs.declared.instruction.Op.TheVariants.{Clear, Load, Store, Mac, Con, AddM, Shl, Shr, Neg, Low, Cap}
use Rattle.mac_listing.specs.Listing.{Instructions}

-- ---- a line
abbrev pub same_bytes : List ℕ → List ℕ → Bool
same_bytes [] [] = true
same_bytes [] (y ∷ ys) = false
same_bytes (x ∷ xs) [] = false
same_bytes (x ∷ xs) (y ∷ ys) = (x == y) && same_bytes xs ys

-- its number with this index, as one of 32 bits
abbrev pub small_at : Keyed → ℕ → ℕ
small_at l j = small (at l.numbers j)

-- a number of the line with this index, as one of 32 bits
abbrev pub small_in : List Keyed → ℕ → ℕ → ℕ
small_in ls i j = small (at (line_in ls i) j)

-- ---- an instruction from its line
-- by the words of constants and shifts
abbrev pub shift_in : Keyed → Op
shift_in l =
    if same_bytes l.key (codes "con") then Con (at l.numbers 0) (small_at l 1)
    else if same_bytes l.key (codes "shl") then Shl (small_at l 0) else if same_bytes l.key (codes "shr") then Shr (small_at l 0) else Cap (at l.numbers 0)

-- by those of an address too
abbrev pub addressed_in : Keyed → Op
addressed_in l =
    if same_bytes l.key (codes "load") then Load (small_at l 0) else if same_bytes l.key (codes "store") then Store (small_at l 0)
    else if same_bytes l.key (codes "addm") then AddM (small_at l 0)
    else if same_bytes l.key (codes "mac") then Mac (small_at l 0) (at l.numbers 1) (small_at l 2) else shift_in l

abbrev pub op_in : Keyed → Op
op_in l =
    if same_bytes l.key (codes "clear") then Clear else if same_bytes l.key (codes "neg") then Neg else if same_bytes l.key (codes "low") then Low
    else addressed_in l

-- ---- a listing from its lines: nine, those of the instructions, and one more
abbrev pub body_in : List Keyed → List Op
body_in ls = map op_in (take (length ls - 10) (drop 9 ls))

abbrev pub listing_in : List Keyed → Instructions
listing_in ls = record {
  width = small_in ls 1 0;
  states = small_in ls 2 0;
  shift = small_in ls 2 1;
  low = line_in ls 3;
  high = line_in ls 4;
  words = small_in ls 5 0;
  first = small_in ls 6 0;
  outputs = small_in ls 6 1;
  denominator = at (line_in ls 6) 2;
  repetitions = small_in ls 7 0;
  body = body_in ls;
}
