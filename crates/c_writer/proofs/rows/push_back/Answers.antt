use Rattle.std.proofs.Common.{◌≡◌, ◌++◌, ◌∙◌, ℕ, List, ap, string_bytes, codes, decimal, rules, [], ◌∷◌}
use Rattle.c_language.specs.Syntax.{Family, variable}
use Rattle.c_language.specs.Text.{variable_text, kind_text}
use Rattle.c_writer.specs.Measured.{held_family, kinds_in}
use Rattle.c_writer.proofs.Texts.{back_pieces}
use Rattle.c_writer.proofs.rows.push_back.Goals as goal

pub returns : goal.returns
returns c =
    let i = c.args.i in
    let old = string_bytes c.args.text.now in
    let letter = c.held_letter-letter.result.now in
    let line = λ (kind name : List ℕ). old ++ ((codes "        " ++ (name ++ (codes " = (" ++ kind ++ codes ")" ++ (codes "(" ++ (codes "(int64_t)" ++ (codes "t" ++ decimal i)) ++ codes ")") ++ codes ";"))) ++ 10 ∷ [] ++ []) in
    let a : c.as_str.result.now ≡ decimal i = search rules in
    let b : c.as_str-2.result.now ≡ decimal i = search rules in
    c.in_ok-push_pieces.ensures ∙ ap (λ (t : List ℕ). old ++ t) (rw (a, b)
    (back_pieces (codes "        ") letter (decimal i) (codes " = (") c.held_kind-kind.result.now (codes ")") (codes "(") (codes "(int64_t)") (codes "t") (codes ")") (codes ";") (10 ∷ []))) ∙
    ap (λ (kind : List ℕ). line kind (letter ++ decimal i)) c.held_kind-kind.ensures ∙
    ap (line (kind_text (kinds_in c.args.from.now (variable (held_family c.moved_held-held.result) i)))) (c.held_letter-letter.ensures i) ∙
    ap (λ (f : Family). line (kind_text (kinds_in c.args.from.now (variable f i))) (variable_text (variable f i))) c.moved_held-held.ensures
