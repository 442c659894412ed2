-- Numbers, lists of numbers and lists of lists, as they are written in a design text.
use Rattle.std.proofs.Common.{◌≡◌, ◌∙◌, ℕ, ◌≤◌, ℤ, List, [], ◌∷◌, ◌++◌, map, codes, Bool, true, false, ◌&&◌, nat_le, refl, sym, arith, append-nil, FitsSigned, unsigned_abs}
use Rattle.std.specs.Int.{w64}
use Rattle.std.specs.Fmt.{signed_decimal}
use Rattle.std.proofs.lemmas.Bool.{and_parts}
use Rattle.std.proofs.lemmas.Bool.Decides.{nat_tests}
use Rattle.std.proofs.lemmas.Int.{ints}
use Rattle.toml.specs.Data.{integer, array, Items, no_items, item}
use Rattle.toml.specs.Text.{IsValueText, IsItemsText, breaks_lines}
use Rattle.design_maker.specs.Texts.{bracketed, list_text, rows_text}
use Rattle.design_maker.proofs.InBrackets.{after, bracketed_after}

-- ---- as values
abbrev pub items_of : List ℤ → Items
items_of [] = no_items
items_of (z ∷ zs) = item (integer z) (items_of zs)

abbrev pub rows_of : List (List ℤ) → Items
rows_of [] = no_items
rows_of (row ∷ rows) = item (array (items_of row)) (rows_of rows)

-- ---- small numbers
abbrev pub Small : ℤ → Type 0
Small z = unsigned_abs z ≤ 20

abbrev pub AllSmall : List ℤ → Type 0
AllSmall [] = Unit {0}
AllSmall (z ∷ zs) = Small z × AllSmall zs

abbrev pub RowsSmall : List (List ℤ) → Type 0
RowsSmall [] = Unit {0}
RowsSmall (row ∷ rows) = AllSmall row × RowsSmall rows

pub small_fits : (z : ℤ) → Small z → FitsSigned w64 z
small_fits z h = omega (arith, ints, h)

-- tests of them, which compute
abbrev is_small : ℤ → Bool
is_small z = nat_le (unsigned_abs z) 20

abbrev are_small : List ℤ → Bool
are_small [] = true
are_small (z ∷ zs) = is_small z && are_small zs

abbrev rows_are_small : List (List ℤ) → Bool
rows_are_small [] = true
rows_are_small (row ∷ rows) = are_small row && rows_are_small rows

number_small : (z : ℤ) → is_small z ≡ true → Small z
number_small z h = grind (arith, nat_tests)

pub list_small : (zs : List ℤ) → are_small zs ≡ true → AllSmall zs
list_small [] h = tt
list_small (z ∷ zs) h = let (first, rest) = and_parts (is_small z) (are_small zs) h in (number_small z first, list_small zs rest)

pub rows_small : (rows : List (List ℤ)) → rows_are_small rows ≡ true → RowsSmall rows
rows_small [] h = tt
rows_small (row ∷ rows) h = let (first, rest) = and_parts (are_small row) (rows_are_small rows) h in (list_small row first, rows_small rows rest)

-- ---- as texts
abbrev AreTexts : Items → List (List ℕ) → Type 0
AreTexts no_items [] = Unit {0}
AreTexts no_items (w ∷ ws) = ⊥
AreTexts (item d ds) [] = ⊥
AreTexts (item d ds) (w ∷ ws) = IsValueText false d w × AreTexts ds ws

no_breaks : (ds : Items) → breaks_lines false ds ≡ false
no_breaks no_items = refl
no_breaks (item d no_items) = refl
no_breaks (item d (item e ds)) = refl

rest_text : (ds : Items) (ws : List (List ℕ)) → AreTexts ds ws → IsItemsText false false false ds (after ws [])
rest_text no_items [] h = refl
rest_text no_items (w ∷ ws) h = absurd h
rest_text (item d ds) [] h = absurd h
rest_text (item d ds) (w ∷ ws) h = (w, after ws [], refl, h.0, rest_text ds ws h.1)

array_text : (ds : Items) (ws : List (List ℕ)) → AreTexts ds ws → IsValueText false (array ds) (bracketed ws)
array_text no_items [] h = (codes "]", refl, refl)
array_text no_items (w ∷ ws) h = absurd h
array_text (item d ds) [] h = absurd h
array_text (item d ds) (w ∷ ws) h =
    (w ++ after ws [], sym (append-nil (bracketed (w ∷ ws))) ∙ bracketed_after w ws [], rw (no_breaks (item d ds)) (w, after ws [], refl, h.0, rest_text ds ws h.1))

list_texts : (zs : List ℤ) → AllSmall zs → AreTexts (items_of zs) (map signed_decimal zs)
list_texts [] h = tt
list_texts (z ∷ zs) h = ((refl, small_fits z h.0), list_texts zs h.1)

pub list_written : (zs : List ℤ) → AllSmall zs → IsValueText false (array (items_of zs)) (list_text zs)
list_written zs h = array_text (items_of zs) (map signed_decimal zs) (list_texts zs h)

row_texts : (rows : List (List ℤ)) → RowsSmall rows → AreTexts (rows_of rows) (map list_text rows)
row_texts [] h = tt
row_texts (row ∷ rows) h = (list_written row h.0, row_texts rows h.1)

pub rows_written : (rows : List (List ℤ)) → RowsSmall rows → IsValueText false (array (rows_of rows)) (rows_text rows)
rows_written rows h = array_text (rows_of rows) (map list_text rows) (row_texts rows h)

pub number_written : (z : ℤ) → Small z → IsValueText false (integer z) (signed_decimal z)
number_written z h = (refl, small_fits z h)
