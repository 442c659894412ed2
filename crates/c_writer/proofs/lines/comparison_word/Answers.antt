use Rattle.std.proofs.Common.{◌≡◌, ◌++◌, ◌∙◌, ℕ, List, ap, codes, decimal, rules, []}
use Rattle.std.specs.Int.{w128}
use Rattle.std.proofs.lemmas.Int.{to_z-of_z}
use Rattle.c_language.specs.Text.{constant_text}
use Rattle.c_writer.proofs.Texts.{comparison_pieces}
use Rattle.c_writer.proofs.lines.comparison_word.Goals as goal

pub returns : goal.returns
returns c =
    let a : c.as_str.result.now ≡ decimal c.args.i = search rules in
    let b : c.as_str-2.result.now ≡ constant_text c.args.high = c.as_str-2.ensures.value ∙ c.in_ok-highest.ensures ∙ ap constant_text (to_z-of_z w128 _ c.ranges.high) in
    let pieces = λ (n h : List ℕ). codes " || " ++ (codes "state[" ++ (n ++ (codes "]" ++ (codes " > " ++ (h ++ []))))) in
    c.in_ok-push_pieces.ensures ∙ ap (λ (t : List ℕ). t ++ pieces c.as_str.result.now c.as_str-2.result.now) c.new-word.ensures.bytes ∙ rw (a, b)
    (comparison_pieces (codes " || ") (codes "state[") (decimal c.args.i) (codes "]") (codes " > ") (constant_text c.args.high))
