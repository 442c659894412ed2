-- A text that grows line by line.
use Rattle.std.proofs.Common.{◌≡◌, ℕ, List, [], ◌∷◌, ◌++◌, refl, sym, ap, ◌∙◌, append_assoc}
use Rattle.number_text.specs.Lines.{text_of}

text_append : (xs ys : List (List ℕ)) → text_of (xs ++ ys) ≡ text_of xs ++ text_of ys
text_append [] ys = refl
text_append (x ∷ xs) ys = ap (λ (t : List ℕ). x ++ 10 ∷ [] ++ t) (text_append xs ys) ∙ sym (append_assoc (x ++ 10 ∷ []) (text_of xs) (text_of ys))

-- lines after lines, all after a text
pub lines_pushed : (ls ms : List (List ℕ)) (t u v : List ℕ) → u ≡ t ++ text_of ls → v ≡ u ++ text_of ms → v ≡ t ++ text_of (ls ++ ms)
lines_pushed ls ms t u v before grown =
    grown ∙ ap (λ (s : List ℕ). s ++ text_of ms) before ∙ append_assoc t (text_of ls) (text_of ms) ∙ ap (λ (s : List ℕ). t ++ s) (sym (text_append ls ms))

-- and after none
pub pushed : (ls ms : List (List ℕ)) (t u : List ℕ) → t ≡ text_of ls → u ≡ t ++ text_of ms → u ≡ text_of (ls ++ ms)
pushed ls ms t u before grown = lines_pushed ls ms [] t u before grown
