-- Lines cut into words, and texts cut into lines.
use Rattle.std.proofs.Common.{◌≡◌, ℕ, suc, ◌<◌, ℤ, List, [], ◌∷◌, ◌++◌, length, eqb, map, Bor, Option, Some, None, sym, ap, subst, ◌∙◌, arith}
use Rattle.std.specs.Prelude.{All, IsSomeAnd}
use Rattle.std.specs.Option.{MatchOption}
use Rattle.std.specs.List.{join_with_byte, slice_split, IsFirstAndRest}
use Rattle.std.specs.Fmt.{signed_decimal}
use Rattle.std.proofs.lemmas.List.Splits.{join_with_byte-slice_split, length-slice_split}
use Rattle.std.proofs.lemmas.List.{length-map, same_from_push}
use Rattle.std.proofs.lemmas.Option.{MatchOption-at_some, MatchOption-at_none}
use Rattle.number_text.specs.Lines.{text_of}
use Rattle.number_text.proofs.Pieces.{IsPiece, ArePieces, piece_above, number_pieces, joined_piece, split_joined, split_text}
use Rattle.text_lines.specs.Lines.{Keyed, IsKeyedLine, spelled}

-- the words of a line
pub line_cut : (piece : List ℕ) (l : Keyed) → IsKeyedLine l → piece ≡ spelled l → slice_split (λ b. eqb b 32) piece ≡ l.key ∷ map signed_decimal l.numbers
line_cut piece l good e =
    ap (slice_split (λ b. eqb b 32)) e
    ∙ split_joined 32 l.key (map signed_decimal l.numbers) (piece_above 32 32 l.key (omega arith) good.key) (number_pieces 32 l.numbers (omega arith) good.fits)

-- and the line of such words
pub line_from_cut : (piece key : List ℕ) (zs : List ℤ) → slice_split (λ b. eqb b 32) piece ≡ key ∷ map signed_decimal zs → piece ≡ join_with_byte 32 (key ∷ map signed_decimal zs)
line_from_cut piece key zs e = sym (join_with_byte-slice_split 32 piece) ∙ ap (join_with_byte 32) e

-- there is always a piece
pub cut_some : (c : ℕ) (bs : List ℕ) → 0 < length (slice_split (λ b. eqb b c) bs)
cut_some c bs = omega (arith, length-slice_split (λ b. eqb b c) bs)

-- ---- what a call answers

-- the first of the words and the others
abbrev pub Found : List (Bor (List ℕ)) → Bor (Bor (List ℕ)) × Bor (List (Bor (List ℕ))) → Type 0
Found words p = IsFirstAndRest words p.0.now p.1.now

pub first_words : (o : Option (Bor (Bor (List ℕ)) × Bor (List (Bor (List ℕ))))) (p : Bor (Bor (List ℕ)) × Bor (List (Bor (List ℕ)))) (words : List (Bor (List ℕ))) (ts : List (List ℕ))
    → map (λ x. x.now) words ≡ ts → MatchOption o (length words ≡ 0) (Found words) → o ≡ Some p → ts ≡ p.0.now.now ∷ map (λ (x : Bor (List ℕ)). x.now) p.1.now
first_words o p words ts same cases e = sym same ∙ ap (map (λ (x : Bor (List ℕ)). x.now)) (MatchOption-at_some (length words ≡ 0) (Found words) p e cases).0

pub no_words : (o : Option (Bor (Bor (List ℕ)) × Bor (List (Bor (List ℕ))))) (words : List (Bor (List ℕ))) (c : ℕ) (piece : List ℕ) → map (λ x. x.now) words ≡ slice_split (λ b. eqb b c) piece →
    MatchOption o (length words ≡ 0) (Found words) → o ≡ None → ⊥
no_words o words c piece same cases e = omega (arith, MatchOption-at_none (length words ≡ 0) (Found words) e cases, length-map words (λ (x : Bor (List ℕ)). x.now), ap length same, cut_some c piece)

pub some_at : {X : Type 0} (o : Option X) (x : X) (P : X → Type 0) → IsSomeAnd o P → o ≡ Some x → P x
some_at o x P h e = subst (λ p. IsSomeAnd p P) e h

pub none_at : {X : Type 0} (o : Option X) (P : X → Type 0) → IsSomeAnd o P → o ≡ None → ⊥
none_at o P h e = subst (λ p. IsSomeAnd p P) e h

-- ---- a text of lines

line_piece : (l : Keyed) → IsKeyedLine l → IsPiece 10 (spelled l)
line_piece l good = joined_piece 10 32 (l.key ∷ map signed_decimal l.numbers) (omega arith) (piece_above 10 32 l.key (omega arith) good.key, number_pieces 10 l.numbers (omega arith) good.fits)

pub line_pieces : (ls : List Keyed) → All IsKeyedLine ls → ArePieces 10 (map spelled ls)
line_pieces [] good = tt
line_pieces (l ∷ ls) good = (line_piece l (good 0 l (omega arith)), line_pieces ls (λ k e lt. good (suc k) e (omega arith)))

-- its pieces
pub text_cut : (text : List ℕ) (ls : List Keyed) (pieces : List (List ℕ)) (last : List ℕ) → All IsKeyedLine ls → text ≡ text_of (map spelled ls) →
    slice_split (λ b. eqb b 10) text ≡ pieces ++ last ∷ [] → (pieces ≡ map spelled ls) × (last ≡ [])
text_cut text ls pieces last good e cut = same_from_push pieces (map spelled ls) last [] (sym cut ∙ ap (slice_split (λ b. eqb b 10)) e ∙ split_text (map spelled ls) (line_pieces ls good))
