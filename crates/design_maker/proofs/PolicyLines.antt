-- The lines of a policy text, as they are written.
use Rattle.std.proofs.Common.{◌≡◌, ◌∙◌, ℕ, zero, suc, ◌+◌, ◌*◌, pos, List, [], ◌∷◌, ◌++◌, codes, replicate, refl, ap, arith, append_assoc}
use Rattle.std.specs.Fmt.{digits}
use Rattle.qp_model.specs.text.StateText.{comma_separated}
use Rattle.number_text.specs.Lines.{text_of}
use Rattle.design_maker.specs.Texts.{policy_line}

-- so many zeros, with a comma before each
abbrev pub zeros : ℕ → List ℕ
zeros zero = []
zeros (suc n) = 44 ∷ 48 ∷ zeros n

pub zeros_more : (n : ℕ) → zeros n ++ codes ",0,0" ≡ zeros (suc (suc n))
zeros_more zero = refl
zeros_more (suc n) = ap (λ (t : List ℕ). 44 ∷ 48 ∷ t) (zeros_more n)

joined : (n : ℕ) → comma_separated (pos 1 ∷ replicate n (pos 0)) ≡ 49 ∷ zeros n
unfolding digits
joined zero = refl
joined (suc n) = ap (λ (t : List ℕ). 49 ∷ 44 ∷ t) (from_zero n)
  where
    from_zero : (n : ℕ) → comma_separated (pos 0 ∷ replicate n (pos 0)) ≡ 48 ∷ zeros n
    from_zero zero = refl
    from_zero (suc n) = ap (λ (t : List ℕ). 48 ∷ 44 ∷ t) (from_zero n)

pub policy_line_is : (stages : ℕ) → policy_line stages ≡ 49 ∷ zeros (2 * stages)
unfolding policy_line
policy_line_is stages = joined (2 * stages)

pub one_stage_more : (n : ℕ) → 49 ∷ (zeros (2 * n) ++ codes ",0,0") ≡ 49 ∷ zeros (2 * (n + 1))
one_stage_more n = let even : suc (suc (2 * n)) ≡ 2 * (n + 1) = omega arith in ap (λ (t : List ℕ). 49 ∷ t) (zeros_more (2 * n) ∙ ap zeros even)

-- four of one line
pub four_written : (line : List ℕ) → text_of (replicate 4 line) ≡ line ++ (10 ∷ (line ++ (10 ∷ (line ++ (10 ∷ (line ++ (10 ∷ [])))))))
four_written line =
    append_assoc line (10 ∷ []) _ ∙ ap (λ (t : List ℕ). line ++ 10 ∷ t)
    (append_assoc line (10 ∷ []) _ ∙ ap (λ (t : List ℕ). line ++ 10 ∷ t)
    (append_assoc line (10 ∷ []) _ ∙ ap (λ (t : List ℕ). line ++ 10 ∷ t)
    (append_assoc line (10 ∷ []) [])))
