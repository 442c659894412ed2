-- The lines of a made design, as they are written.
use Rattle.std.proofs.Common.{◌≡◌, ◌∙◌, ℕ, ℤ, pos, List, [], ◌∷◌, ◌++◌, codes, refl, sym, ap, append_assoc}
use Rattle.std.specs.Fmt.{decimal, signed_decimal, digits}
use Rattle.number_text.specs.Lines.{text_of}
use Rattle.design_maker.specs.declared.draws.Drawn.{Drawn}
use Rattle.design_maker.specs.Texts.{rows_text, list_text, plant_rows, cost_rows, input_weights, plant_lines, cost_lines, limit_lines, design_lines}
use Rattle.design_maker.proofs.InBrackets.{bracketed_after, two_after}

abbrev word : ℤ → List ℕ
word z = signed_decimal z

-- after the word of a line
abbrev line_end : (w rest : List ℕ) → (w ++ 10 ∷ []) ++ rest ≡ w ++ 10 ∷ rest
line_end w rest = append_assoc w (10 ∷ []) rest

pub lines_append : (first second : List (List ℕ)) → text_of (first ++ second) ≡ text_of first ++ text_of second
lines_append [] second = refl
lines_append (line ∷ lines) second = ap (λ (t : List ℕ). (line ++ 10 ∷ []) ++ t) (lines_append lines second) ∙ sym (append_assoc (line ++ 10 ∷ []) (text_of lines) (text_of second))

pub plant_written : (d : Drawn) (stages : ℕ) → text_of (plant_lines d stages) ≡
    codes "version = 1\nstates = 2\ninputs = 2\nstages = " ++ (decimal stages ++ (codes "\n[plant]\nden = 4\na = [["
    ++ (word d.a11 ++ (codes ", " ++ (word d.a12 ++ (codes "], [" ++ (word d.a21 ++ (codes ", " ++ (word d.a22 ++ codes "]]\nb = [[4, 0], [0, 4]]\n")))))))))
plant_written d stages =
    ap (λ (t : List ℕ). codes "version = 1\nstates = 2\ninputs = 2\nstages = " ++ t)
    (line_end (decimal stages) _ ∙ ap (λ (t : List ℕ). decimal stages ++ (codes "\n[plant]\nden = 4\na = " ++ t))
    (line_end (rows_text (plant_rows d)) (codes "b = [[4, 0], [0, 4]]\n") ∙ two_after (word d.a11) (word d.a21) (word d.a12 ∷ []) (word d.a22 ∷ []) (codes "\nb = [[4, 0], [0, 4]]\n")))

pub cost_written : (d : Drawn) → text_of (cost_lines d) ≡
    codes "[cost]\nden = 1\nrow_den = 1\ninput = [" ++ (word d.first_input ++ (codes ", " ++ (word d.second_input ++ (codes "]\nstage = [[1, 0, "
    ++ (word d.first_target ++ (codes ", " ++ (word d.first_weight ++ (codes "], [0, 1, " ++ (word d.second_target ++ (codes ", " ++ (word d.second_weight ++ codes "]]\nfinal = []\n")))))))))))
unfolding digits
cost_written d =
    ap (λ (t : List ℕ). codes "[cost]\nden = 1\nrow_den = 1\ninput = " ++ t)
    (line_end (list_text (input_weights d)) _ ∙ bracketed_after (word d.first_input) (word d.second_input ∷ []) _
    ∙ ap (λ (t : List ℕ). 91 ∷ (word d.first_input ++ (codes ", " ++ (word d.second_input ++ (codes "]\nstage = " ++ t)))))
    (line_end (rows_text (cost_rows d)) (codes "final = []\n")
    ∙ two_after (word (pos 1)) (word (pos 0)) (word (pos 0) ∷ word d.first_target ∷ word d.first_weight ∷ []) (word (pos 1) ∷ word d.second_target ∷ word d.second_weight ∷ []) (codes "\nfinal = []\n")))

-- as `format!` groups them, which has at most so many pieces in a group
regroup : (a b c d e f g h i j k rest : List ℕ) → (a ++ (b ++ (c ++ (d ++ (e ++ (f ++ (g ++ (h ++ (i ++ (j ++ k)))))))))) ++ rest ≡ a ++ (b ++ (c ++ (d ++ (e ++ (f ++ (g ++ (h ++ (i ++ (j ++ (k ++ rest))))))))))
regroup a b c d e f g h i j k rest = simp append_assoc refl

pub cost_formatted : (d : Drawn) →
    codes "[cost]\nden = 1\nrow_den = 1\ninput = [" ++ ((word d.first_input ++ (codes ", " ++ (word d.second_input ++ (codes "]\nstage = [[1, 0, "
    ++ (word d.first_target ++ (codes ", " ++ (word d.first_weight ++ (codes "], [0, 1, " ++ (word d.second_target ++ (codes ", " ++ word d.second_weight)))))))))) ++ codes "]]\nfinal = []\n")
    ≡ codes "[cost]\nden = 1\nrow_den = 1\ninput = [" ++ (word d.first_input ++ (codes ", " ++ (word d.second_input ++ (codes "]\nstage = [[1, 0, "
    ++ (word d.first_target ++ (codes ", " ++ (word d.first_weight ++ (codes "], [0, 1, " ++ (word d.second_target ++ (codes ", " ++ (word d.second_weight ++ codes "]]\nfinal = []\n")))))))))))
cost_formatted d = ap (λ (t : List ℕ). codes "[cost]\nden = 1\nrow_den = 1\ninput = [" ++ t)
    (regroup (word d.first_input) (codes ", ") (word d.second_input) (codes "]\nstage = [[1, 0, ")
    (word d.first_target) (codes ", ") (word d.first_weight) (codes "], [0, 1, ") (word d.second_target) (codes ", ") (word d.second_weight) (codes "]]\nfinal = []\n"))

-- all of them
pub design_written : (d : Drawn) (stages : ℕ) → text_of (design_lines d stages) ≡ text_of (plant_lines d stages) ++ (text_of (cost_lines d) ++ text_of limit_lines)
design_written d stages = lines_append (plant_lines d stages ++ cost_lines d) limit_lines ∙ ap (λ (t : List ℕ). t ++ text_of limit_lines) (lines_append (plant_lines d stages) (cost_lines d))
    ∙ append_assoc (text_of (plant_lines d stages)) (text_of (cost_lines d)) (text_of limit_lines)
