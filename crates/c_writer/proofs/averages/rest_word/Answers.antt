use Rattle.std.proofs.Common.{◌≡◌, ◌++◌, ◌∙◌, pos, ℕ, List, ap, codes, []}
use Rattle.c_language.specs.Syntax.{variable}
use Rattle.c_language.specs.Syntax.Family.{Output}
use Rattle.c_language.specs.Syntax.Expression.{Value}
use Rattle.c_language.specs.Text.{constant_text, expression_text}
use Rattle.c_writer.proofs.Texts.{rest_text}
use Rattle.c_writer.proofs.averages.rest_word.Goals as goal

pub returns : goal.returns
returns c =
    let s = expression_text (Value (variable Output c.args.j)) in
    let k = constant_text (pos c.args.steps) in
    let a : c.as_str.result.now ≡ s = c.as_str.ensures.value ∙ c.in_ok-sum.ensures in
    let b : c.as_str-2.result.now ≡ k = c.as_str-2.ensures.value ∙ c.in_ok-count.ensures in
    let whole = λ (s k : List ℕ). codes "(" ++ (codes "INT64_C(2)" ++ (codes " * " ++ (codes "(" ++ (s ++ (codes " % " ++ (k ++ (codes ")" ++ (codes ")" ++ [])))))))) in
    c.in_ok-push_pieces.ensures ∙ ap (λ (t : List ℕ). t ++ whole c.as_str.result.now c.as_str-2.result.now) c.new-word.ensures.bytes ∙
    ap (λ (t : List ℕ). whole t c.as_str-2.result.now) a ∙ ap (λ (t : List ℕ). whole s t) b ∙ rest_text s k
