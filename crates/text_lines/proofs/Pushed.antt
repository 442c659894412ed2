-- Texts that grow line by line.
use Rattle.std.proofs.Common.{◌≡◌, ℕ, ◌+◌, ◌<◌, ℤ, List, [], ◌∷◌, ◌++◌, length, take, get_or, map, refl, sym, ap, ◌∙◌, append_assoc}
use Rattle.std.proofs.lemmas.List.{take_more, map-append}
use Rattle.number_text.specs.Lines.{line_of, text_of}
use Rattle.text_lines.specs.Lines.{Keyed, spelled}
use Rattle.text_lines.specs.Blocks.{chained}
use Rattle.text_lines.proofs.Chained.{chain_more}
use Rattle.text_lines.proofs.OneText.{text_append}

-- one block more
pub block_pushed : (bs : List (List Keyed)) (i : ℕ) (t u : List ℕ) → i < length bs → t ≡ text_of (map spelled (chained (take i bs))) →
    u ≡ t ++ text_of (map spelled (get_or bs i [])) → u ≡ text_of (map spelled (chained (take (i + 1) bs)))
block_pushed bs i t u lt before grown =
    let front = chained (take i bs) in
    let last = get_or bs i [] in
    let more : map spelled (chained (take (i + 1) bs)) ≡ map spelled front ++ map spelled last = ap (map spelled) (chain_more bs i lt) ∙ map-append spelled front last in
    grown ∙ ap (λ (s : List ℕ). s ++ text_of (map spelled last)) before ∙ sym (text_append (map spelled front) (map spelled last)) ∙ ap text_of (sym more)

-- one row more
pub row_pushed : (key : List ℕ) (rows : List (List ℤ)) (i : ℕ) (t u v : List ℕ) → i < length rows → u ≡ t ++ text_of (map (line_of key) (take i rows)) → v ≡ u ++
    text_of (line_of key (get_or rows i []) ∷ []) → v ≡ t ++ text_of (map (line_of key) (take (i + 1) rows))
row_pushed key rows i t u v lt before grown =
    let front = map (line_of key) (take i rows) in
    let last = line_of key (get_or rows i []) ∷ [] in
    let more : map (line_of key) (take (i + 1) rows) ≡ front ++ last = rw (take_more rows i [] lt, map-append (line_of key) (take i rows) (get_or rows i [] ∷ [])) refl in
    grown ∙ ap (λ (s : List ℕ). s ++ text_of last) before ∙ append_assoc t (text_of front) (text_of last) ∙ ap (λ (s : List ℕ). t ++ s) (sym (text_append front last) ∙ ap text_of (sym more))
