use Rattle.std.proofs.Common.{◌≡◌, ◌++◌, ◌∙◌, ◌∷◌, [], ℕ, List, ap, rules, decimal, codes, string_bytes}
use Rattle.c_writer.proofs.Texts.{size_pieces}
use Rattle.c_writer.proofs.header.push_size.Goals as goal

pub returns : goal.returns
returns c =
    let a : c.as_str.result.now ≡ decimal c.args.n = search rules in
    c.in_ok-push_pieces.ensures ∙ ap (λ (t : List ℕ). string_bytes c.args.text.now ++ t) (rw a
    (size_pieces (codes "#define ") c.args.name.now c.args.word.now (codes " ") (decimal c.args.n) (10 ∷ [])))
