use Rattle.std.proofs.Common.{◌≡◌, ◌++◌, ◌∙◌, ℕ, List, length, ap, sym, rules, decimal, codes, string_bytes}
use Rattle.std.proofs.lemmas.List.FromFn.{length-map-range_with_len}
use Rattle.qp_model.specs.machine.Controller.{numbers}
use Rattle.c_language.specs.Syntax.{variable}
use Rattle.c_language.specs.Syntax.Family.{Sum}
use Rattle.c_writer.proofs.Texts.{head_pieces}
use Rattle.c_writer.proofs.writer.push_head.Goals as goal

pub returns : goal.returns
returns c =
    let n = numbers c.args.c.now in
    let a : c.as_str.result.now ≡ decimal (length n.low) = search rules in
    let b : c.as_str-2.result.now ≡ decimal (length n.offsets) = search rules in
    let d = b ∙ ap decimal (sym (length-map-range_with_len (variable Sum) 0 (length n.offsets))) in
    c.in_ok-push_pieces.ensures ∙ ap (λ (t : List ℕ). string_bytes c.args.text.now ++ t) (rw (a, d)
    (head_pieces (codes "int ") c.args.name.now (codes "_solve(const int32_t state[") (decimal (length n.low)) (codes "], int64_t sums[") _ (codes "])")))
