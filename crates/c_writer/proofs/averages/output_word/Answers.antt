use Rattle.std.proofs.Common.{◌≡◌, ◌++◌, ◌∙◌, ℕ, List, ap, rules, decimal, codes, []}
use Rattle.c_writer.proofs.Texts.{output_pieces}
use Rattle.c_writer.proofs.averages.output_word.Goals as goal

pub returns : goal.returns
returns c =
    let a : c.as_str.result.now ≡ decimal c.args.j = search rules in
    c.in_ok-push_pieces.ensures ∙ ap (λ (t : List ℕ). t ++ (codes "(int64_t)" ++ (codes "sums[" ++ (c.as_str.result.now ++ (codes "]" ++ []))))) c.new-word.ensures.bytes ∙ rw a
    (output_pieces (codes "(int64_t)") (codes "sums[") (decimal c.args.j) (codes "]"))
