use Rattle.std.proofs.Common.{◌≡◌, ◌++◌, ◌∙◌, ◌-◌, ◌^◌, ◌==◌, pos, ℕ, List, ap, sym, rules, decimal, string_bytes, [], ◌∷◌}
use Rattle.std.specs.Int.{w32, trailing_zeros}
use Rattle.std.proofs.lemmas.Bool.{cond-false}
use Rattle.number_text.specs.Lines.{text_of}
use Rattle.c_language.specs.Syntax.{variable, Expression}
use Rattle.c_language.specs.Syntax.Family.{Output}
use Rattle.c_language.specs.Syntax.Expression.{Value}
use Rattle.c_program.specs.Of.{shifted_average, doubled_rest, divided_average}
use Rattle.c_language.specs.Text.{constant_text, expression_text, average_line}
use Rattle.c_writer.proofs.Texts.{divided_text}
use Rattle.c_writer.proofs.averages.push_divided.Goals as goal

pub returns : goal.returns
returns c =
    let steps = c.args.steps in
    let k = trailing_zeros w32 steps in
    let sum = Value (variable Output c.args.j) in
    let count = constant_text (pos steps) in
    let rest = expression_text (doubled_rest sum steps) in
    let less = constant_text (pos (steps - 1)) in
    let a : c.as_str.result.now ≡ decimal c.args.j = search rules in
    let b : c.as_str-2.result.now ≡ expression_text sum = c.as_str-2.ensures.value ∙ c.in_ok-sum.ensures in
    let d : c.as_str-3.result.now ≡ count = c.as_str-3.ensures.value ∙ c.in_ok-count.ensures in
    let e : c.as_str-4.result.now ≡ rest = c.as_str-4.ensures.value ∙ c.in_ok-rest.ensures in
    let f : c.as_str-5.result.now ≡ count = c.as_str-5.ensures.value ∙ c.in_ok-count.ensures in
    let g : c.as_str-6.result.now ≡ less = c.as_str-6.ensures.value ∙ c.in_ok-less.ensures in
    let h : c.as_str-7.result.now ≡ rest = c.as_str-7.ensures.value ∙ c.in_ok-rest.ensures in
    c.in_ok-push_pieces.ensures ∙ ap (λ (t : List ℕ). string_bytes c.args.text.now ++ t) (rw (a, b, d, e, f, g, h) (divided_text (decimal c.args.j) (expression_text sum) count rest less)) ∙
    ap (λ (x : Expression). string_bytes c.args.text.now ++ text_of (average_line c.args.j x ∷ []))
    (sym (cond-false (steps == 2 ^ k) (shifted_average sum steps k) (divided_average sum steps) c.requires.other))
