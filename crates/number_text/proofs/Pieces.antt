-- Texts cut into pieces at a byte, and joined again.
use Rattle.std.proofs.Common.{◌≡◌, ℕ, zero, suc, ◌+◌, ◌≤◌, ◌<◌, true, false, ℤ, pos, negsuc, List, [], ◌∷◌, ◌++◌, get_or, eqb, map, refl, ap, ◌∙◌, arith, append_assoc, FitsSigned}
use Rattle.std.specs.Prelude.{All}
use Rattle.std.specs.List.{join_with_byte, slice_split}
use Rattle.std.specs.Int.{w128}
use Rattle.std.specs.Fmt.{decimal, signed_decimal}
use Rattle.std.specs.Str.Parse.{AllDigits}
use Rattle.std.proofs.lemmas.Bool.{ne_eqb}
use Rattle.std.proofs.lemmas.Str.Parse.{digit_at}
use Rattle.std.proofs.lemmas.Fmt.{decimal_is_IsNumeral_wide}
use Rattle.std.proofs.lemmas.List.{get_or_default}
use Rattle.std.proofs.lemmas.List.Elements.{All-append}
use Rattle.std.proofs.lemmas.List.Splits.{slice_split_none, slice_split_at}
use Rattle.number_text.specs.Lines.{text_of}

-- ---- the bytes of a number

-- each byte is greater than this one
abbrev pub IsAbove : ℕ → List ℕ → Type 0
IsAbove c word = All (λ b. c < b) word

digits_above : (ds : List ℕ) → AllDigits 10 ds → IsAbove 44 ds
digits_above ds d k e lt =
    let range = digit_at ds k d lt in
    let same : get_or ds k e ≡ get_or ds k 0 = get_or_default ds k e 0 lt in
    rw same (omega arith)

minus_above : (ds : List ℕ) → IsAbove 44 ds → IsAbove 44 (45 ∷ ds)
minus_above ds w zero e lt = omega arith
minus_above ds w (suc k) e lt = w k e (omega arith)

-- a number's spelling has no separator in it
pub number_above : (z : ℤ) → FitsSigned w128 z → IsAbove 44 (signed_decimal z)
number_above (pos n) fits = digits_above (decimal n) (decimal_is_IsNumeral_wide n (omega (arith, fits.sfits))).0.1
number_above (negsuc n) fits = minus_above (decimal (suc n)) (digits_above (decimal (suc n)) (decimal_is_IsNumeral_wide (suc n) (omega (arith, fits.sfits))).0.1)

-- ---- pieces without their separator

-- this byte isn't in it
abbrev pub IsPiece : ℕ → List ℕ → Type 0
IsPiece c word = All (λ b. eqb b c ≡ false) word

pub piece_above : (c d : ℕ) (word : List ℕ) → c ≤ d → IsAbove d word → IsPiece c word
piece_above c d word le h k e lt =
    let greater : d < get_or word k e = h k e lt in
    ne_eqb (get_or word k e) c (λ same. omega arith)

abbrev pub ArePieces : ℕ → List (List ℕ) → Type 0
ArePieces c [] = Unit {0}
ArePieces c (w ∷ ws) = IsPiece c w × ArePieces c ws

-- nor in what pieces make that are joined by a greater one
pub joined_piece : (c d : ℕ) (ws : List (List ℕ)) → c < d → ArePieces c ws → IsPiece c (join_with_byte d ws)
joined_piece c d [] lt h = λ k e within. absurd (omega arith)
joined_piece c d (w ∷ []) lt h = h.0
joined_piece c d (w ∷ v ∷ ws) lt h = All-append (λ b. eqb b c ≡ false) w (d ∷ join_with_byte d (v ∷ ws)) h.0 (front (join_with_byte d (v ∷ ws)) (joined_piece c d (v ∷ ws) lt h.1))
  where
    front : (rest : List ℕ) → IsPiece c rest → IsPiece c (d ∷ rest)
    front rest h zero e within = ne_eqb d c (λ same. omega arith)
    front rest h (suc k) e within = h k e (omega arith)

pub number_pieces : (c : ℕ) (zs : List ℤ) → c ≤ 44 → All (FitsSigned w128) zs → ArePieces c (map signed_decimal zs)
number_pieces c [] le fits = tt
number_pieces c (z ∷ zs) le fits = (piece_above c 44 (signed_decimal z) le (number_above z (fits 0 z (omega arith))), number_pieces c zs le (λ k e lt. fits (suc k) e (omega arith)))

-- pieces that are joined are cut again
pub split_joined : (c : ℕ) (w : List ℕ) (ws : List (List ℕ)) → IsPiece c w → ArePieces c ws → slice_split (λ b. eqb b c) (join_with_byte c (w ∷ ws)) ≡ w ∷ ws
split_joined c w [] h k = slice_split_none (λ b. eqb b c) w h
split_joined c w (v ∷ ws) h k =
    slice_split_at (λ b. eqb b c) w c (join_with_byte c (v ∷ ws)) h (same c) ∙ ap (λ (l : List (List ℕ)). w ∷ l) (split_joined c v ws k.0 k.1)
  where
    same : (c : ℕ) → eqb c c ≡ true
    same c = grind arith

-- ---- lines

-- a text of lines is cut into them and an empty piece
pub split_text : (ls : List (List ℕ)) → ArePieces 10 ls → slice_split (λ b. eqb b 10) (text_of ls) ≡ ls ++ [] ∷ []
split_text [] h = refl
split_text (l ∷ ls) h = ap (slice_split (λ b. eqb b 10)) (append_assoc l (10 ∷ []) (text_of ls)) ∙ slice_split_at (λ b. eqb b 10) l 10 (text_of ls) h.0 refl ∙ ap (λ (r : List (List ℕ)). l ∷ r) (split_text ls h.1)
