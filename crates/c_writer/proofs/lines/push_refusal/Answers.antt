use Rattle.std.proofs.Common.{◌≡◌, ◌++◌, ◌∙◌, ℕ, ℤ, suc, ◌+◌, add-one, List, ap, string_bytes, codes, decimal, rules, [], ◌∷◌}
use Rattle.std.specs.Int.{w128}
use Rattle.std.proofs.lemmas.Int.{to_z-of_z}
use Rattle.c_language.specs.Text.{constant_text, above_text}
use Rattle.c_writer.proofs.Texts.{refusal_pieces}
use Rattle.c_writer.proofs.lines.push_refusal.Goals as goal

pub returns : goal.returns
returns c =
    let a : c.as_str.result.now ≡ decimal c.args.i = search rules in
    let b : c.as_str-2.result.now ≡ constant_text c.args.low = c.as_str-2.ensures.value ∙ c.in_ok-lowest.ensures ∙ ap constant_text (to_z-of_z w128 _ c.ranges.low) in
    let d : c.as_str-3.result.now ≡ above_text c.args.high c.args.i = c.as_str-3.ensures.value ∙ c.in_ok-above.ensures ∙ ap (λ (z : ℤ). above_text z c.args.i) (to_z-of_z w128 _ c.ranges.high) in
    let g : c.as_str-4.result.now ≡ decimal (c.args.i + 1) = search rules in
    let e : c.as_str-4.result.now ≡ decimal (suc c.args.i) = g ∙ ap decimal (add-one c.args.i) in
    c.in_ok-push_pieces.ensures ∙ ap (λ (t : List ℕ). string_bytes c.args.text.now ++ t) (rw (a, b, d, e)
    (refusal_pieces (codes "    if (") (codes "state[") (decimal c.args.i) (codes "]") (codes " < ") (constant_text c.args.low) (above_text c.args.high c.args.i)
    (codes ") { return ") (decimal (suc c.args.i)) (codes "; }") (10 ∷ [])))
