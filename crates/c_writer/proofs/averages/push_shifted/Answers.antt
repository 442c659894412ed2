use Rattle.std.proofs.Common.{◌≡◌, ◌++◌, ◌∙◌, ◌/◌, ◌^◌, ◌==◌, pos, ℕ, List, ap, sym, rules, decimal, codes, string_bytes, [], ◌∷◌}
use Rattle.std.specs.Int.{w32, trailing_zeros}
use Rattle.std.proofs.lemmas.Bool.{cond-true}
use Rattle.number_text.specs.Lines.{text_of}
use Rattle.c_language.specs.Syntax.{variable, Expression}
use Rattle.c_language.specs.Syntax.Family.{Output}
use Rattle.c_language.specs.Syntax.Expression.{Value}
use Rattle.c_program.specs.Of.{shifted_average, divided_average}
use Rattle.c_language.specs.Text.{constant_text, expression_text, average_line}
use Rattle.c_writer.proofs.Texts.{shifted_pieces}
use Rattle.c_writer.proofs.averages.push_shifted.Goals as goal

pub returns : goal.returns
returns c =
    let steps = c.args.steps in
    let k = trailing_zeros w32 steps in
    let sum = Value (variable Output c.args.j) in
    let half = constant_text (pos (steps / 2)) in
    let a : c.as_str.result.now ≡ decimal c.args.j = search rules in
    let b : c.as_str-2.result.now ≡ expression_text sum = c.as_str-2.ensures.value ∙ c.in_ok-sum.ensures in
    let d : c.as_str-3.result.now ≡ half = c.as_str-3.ensures.value ∙ c.in_ok-half.ensures in
    let e : c.as_str-4.result.now ≡ decimal k = search rules in
    c.in_ok-push_pieces.ensures ∙ ap (λ (t : List ℕ). string_bytes c.args.text.now ++ t) (rw (a, b, d, e)
    (shifted_pieces (codes "    inputs[") (decimal c.args.j) (codes "] = ") (codes "(") (expression_text sum) (codes " + ") half (codes ")") (codes " >> ") (decimal k) (codes ";") (10 ∷ []))) ∙
    ap (λ (x : Expression). string_bytes c.args.text.now ++ text_of (average_line c.args.j x ∷ []))
    (sym (cond-true (steps == 2 ^ k) (shifted_average sum steps k) (divided_average sum steps) c.requires))
