use Rattle.std.proofs.Common.{◌≡◌, ◌++◌, ◌∙◌, ℕ, List, FitsSigned, ap, string_bytes, codes, decimal, rules, [], ◌∷◌}
use Rattle.std.specs.Int.{w128}
use Rattle.std.proofs.lemmas.Int.{to_z-of_z}
use Rattle.qp_model.specs.machine.Controller.{numbers}
use Rattle.c_program.specs.ByMachine.{top_for}
use Rattle.c_language.specs.Text.{constant_text}
use Rattle.c_writer.proofs.Texts.{ceiling_pieces}
use Rattle.c_writer.proofs.rows.push_ceiling.Goals as goal

pub returns : goal.returns
returns c =
    let n = numbers c.args.from.now.c.now in
    let f : FitsSigned w128 c.limit_at.result = search rules in
    let top = c.in_ok-top.ensures ∙ ap constant_text (to_z-of_z w128 _ f ∙ c.limit_at.ensures.value) in
    let a : c.as_str.result.now ≡ decimal c.args.i = search rules in
    let b : c.as_str-2.result.now ≡ constant_text (top_for c.args.from.now.machine n c.args.i) = c.as_str-2.ensures.value ∙ top in
    let d : c.as_str-3.result.now ≡ decimal c.args.i = search rules in
    let e : c.as_str-4.result.now ≡ constant_text (top_for c.args.from.now.machine n c.args.i) = c.as_str-4.ensures.value ∙ top in
    c.in_ok-push_pieces.ensures ∙ ap (λ (t : List ℕ). string_bytes c.args.text.now ++ t) (rw (a, b, d, e, c.requires.kind)
    (ceiling_pieces (codes "        ") (codes "if (") (codes "t") (decimal c.args.i) (codes " > ") (constant_text (top_for c.args.from.now.machine n c.args.i)) (codes ") { ") (codes " = (") _ (codes ")") (codes "(") (codes ")")
    (codes ";") (codes " }") (10 ∷ [])))
