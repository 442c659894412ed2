use Rattle.std.proofs.Common.{◌≡◌, ◌++◌, ◌∙◌, ◌∷◌, [], ℕ, List, ap, rules, decimal, codes, string_bytes}
use Rattle.c_writer.proofs.Texts.{loop_pieces}
use Rattle.c_writer.proofs.writer.push_loop.Goals as goal

pub returns : goal.returns
returns c =
    let a : c.as_str.result.now ≡ decimal c.args.c.now.steps = search rules in
    c.in_ok-push_pieces.ensures ∙ ap (λ (t : List ℕ). string_bytes c.args.text.now ++ t) (rw a
    (loop_pieces (codes "    for (int32_t step = 0; step < ") (decimal c.args.c.now.steps) (codes "; step++) {") (10 ∷ [])))
