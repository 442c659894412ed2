-- A report as a JSON value.
use Rattle.std.specs.Prelude.{◌≡◌, ℕ, ℤ, List, [], ◌∷◌, ◌++◌, Some, map, codes}
use Rattle.std.specs.Fmt.{signed_decimal}
use Rattle.serde_json.specs.Data.{Data, object, array, string, Items, Members, no_members, member}
use Rattle.serde_json.specs.Read.{read}
use Rattle.serde_json.specs.View.{items_of}
use Rattle.bound_report.specs.Report.{Figure, One, Each}

-- each number in decimal, as a text
abbrev pub strings_of : List ℤ → Items
strings_of zs = items_of (map (λ z. string (signed_decimal z)) zs)

-- a number as a text, and several as an array of texts
abbrev pub value_of : Figure → Data
value_of (One z) = string (signed_decimal z)
value_of (Each zs) = array (strings_of zs)

-- each key with its figure
abbrev pub members_of : List (List ℕ × Figure) → Members
members_of [] = no_members
members_of (m ∷ ms) = member m.0 (value_of m.1) (members_of ms)

-- the object with these members
abbrev pub object_of : List (List ℕ × Figure) → Data
object_of ms = object (members_of ms)

-- a text that reads as this value, and a line feed
abbrev pub IsJsonLine : List ℕ → Data → Type 0
IsJsonLine bytes d = (text : List ℕ) × (bytes ≡ text ++ codes "\n") × (read text ≡ Some d)
