-- Lists in brackets, with the text after them.
use Rattle.std.proofs.Common.{◌≡◌, ◌∙◌, ℕ, List, [], ◌∷◌, ◌++◌, refl, ap, append_assoc}
use Rattle.design_maker.specs.Texts.{other_lines, bracketed}

-- what stands after the first of some words: the others, the bracket and the rest
abbrev pub after : List (List ℕ) → List ℕ → List ℕ
after [] rest = 93 ∷ rest
after (word ∷ words) rest = 44 ∷ 32 ∷ (word ++ after words rest)

others_after : (words : List (List ℕ)) (rest : List ℕ) → other_lines words ++ 93 ∷ rest ≡ after words rest
others_after [] rest = refl
others_after (word ∷ words) rest = ap (λ (t : List ℕ). 44 ∷ 32 ∷ t) (append_assoc word (other_lines words) (93 ∷ rest) ∙ ap (λ (t : List ℕ). word ++ t) (others_after words rest))

pub bracketed_after : (word : List ℕ) (words : List (List ℕ)) (rest : List ℕ) → bracketed (word ∷ words) ++ rest ≡ 91 ∷ (word ++ after words rest)
bracketed_after word words rest = ap (λ (t : List ℕ). 91 ∷ t)
    (append_assoc (word ++ other_lines words) (93 ∷ []) rest ∙ append_assoc word (other_lines words) (93 ∷ rest) ∙ ap (λ (t : List ℕ). word ++ t) (others_after words rest))

-- two lists, in brackets
pub two_after : (v w : List ℕ) (vs ws : List (List ℕ)) (rest : List ℕ) →
    bracketed (bracketed (v ∷ vs) ∷ bracketed (w ∷ ws) ∷ []) ++ rest ≡ 91 ∷ 91 ∷ (v ++ after vs (44 ∷ 32 ∷ 91 ∷ (w ++ after ws (93 ∷ rest))))
two_after v w vs ws rest = bracketed_after (bracketed (v ∷ vs)) (bracketed (w ∷ ws) ∷ []) rest
    ∙ ap (λ (t : List ℕ). 91 ∷ t) (bracketed_after v vs (44 ∷ 32 ∷ (bracketed (w ∷ ws) ++ 93 ∷ rest))
    ∙ ap (λ (t : List ℕ). 91 ∷ (v ++ after vs (44 ∷ 32 ∷ t))) (bracketed_after w ws (93 ∷ rest)))
