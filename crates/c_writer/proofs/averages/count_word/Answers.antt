use Rattle.std.proofs.Common.{◌≡◌, ◌++◌, ◌∙◌, ℕ, List, ap, rules, decimal, codes, []}
use Rattle.c_writer.proofs.Texts.{constant_pieces}
use Rattle.c_writer.proofs.averages.count_word.Goals as goal

pub returns : goal.returns
returns c =
    let a : c.as_str.result.now ≡ decimal c.args.n = search rules in
    c.in_ok-push_pieces.ensures ∙ ap (λ (t : List ℕ). t ++ (codes "INT64_C(" ++ (c.as_str.result.now ++ (codes ")" ++ [])))) c.new-word.ensures.bytes ∙ rw a
    (constant_pieces (codes "INT64_C(") (decimal c.args.n) (codes ")"))
