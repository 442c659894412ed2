use Rattle.std.proofs.Common.{◌≡◌, ◌++◌, ◌∙◌, ℕ, List, ap, string_bytes, codes, decimal, rules, [], ◌∷◌}
use Rattle.c_writer.proofs.Texts.{floor_pieces}
use Rattle.c_writer.proofs.rows.push_floor.Goals as goal

pub returns : goal.returns
returns c =
    let a : c.as_str.result.now ≡ decimal c.args.i = search rules in
    let b : c.as_str-2.result.now ≡ decimal c.args.i = search rules in
    c.in_ok-push_pieces.ensures ∙ ap (λ (t : List ℕ). string_bytes c.args.text.now ++ t) (rw (a, b)
    (floor_pieces (codes "        ") (codes "if (") (codes "t") (decimal c.args.i) (codes " < 0) { ") (codes " = 0; }") (10 ∷ [])))
