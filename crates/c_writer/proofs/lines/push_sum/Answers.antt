use Rattle.std.proofs.Common.{◌≡◌, ◌++◌, ◌∙◌, ℕ, List, ap, sym, refl, string_bytes, codes, decimal, rules, [], ◌∷◌}
use Rattle.c_language.specs.Syntax.{variable}
use Rattle.c_language.specs.Syntax.Family.{Sum, Entry}
use Rattle.c_language.specs.Syntax.Expression.{Value}
use Rattle.c_program.specs.Of.{kind_for}
use Rattle.c_language.specs.Text.{kind_text, enclosed, expression_text}
use Rattle.c_writer.specs.Terms.{weight_open, weight_end}
use Rattle.c_writer.specs.Measured.{kinds_in}
use Rattle.c_writer.proofs.Texts.{sum_pieces, weighted_read}
use Rattle.c_writer.proofs.lines.push_sum.Goals as goal

pub returns : goal.returns
returns c =
    let m = c.args.from.now.machine in
    let kind = kind_text (kinds_in c.args.from.now (variable Sum c.args.j)) in
    let k : c.kind_word-kind.result.now ≡ kind = c.kind_word-kind.ensures ∙ ap (λ (top : ℕ). kind_text (kind_for top)) c.sum_top.ensures in
    let a : c.as_str.result.now ≡ decimal c.args.j = search rules in
    let b : c.as_str-2.result.now ≡ decimal c.args.j = search rules in
    let d : c.as_str-3.result.now ≡ decimal c.args.j = search rules in
    let line = λ (t : List ℕ). (codes "        " ++ (codes "s" ++ decimal c.args.j ++ (codes " = (" ++ kind ++ codes ")" ++ enclosed (expression_text (Value (variable Sum c.args.j)) ++ codes " + " ++ t) ++ codes ";"))) ++ 10 ∷ [] ++ [] in
    c.in_ok-push_pieces.ensures ∙ ap (λ (t : List ℕ). string_bytes c.args.text.now ++ t) (rw (a, b, d, k, c.weight_open-open.ensures, c.weight_end-end.ensures)
    (sum_pieces (codes "        ") (codes "s") (decimal c.args.j) (codes " = (") kind (codes ")") (codes "(") (codes "(int64_t)") (codes " + ") (weight_open m) (codes "u") (weight_end m) (codes ")") (codes ";") (10 ∷ []))) ∙
    ap (λ (t : List ℕ). string_bytes c.args.text.now ++ line t) (sym (weighted_read m (Value (variable Entry c.args.j)) (λ t. refl)))
