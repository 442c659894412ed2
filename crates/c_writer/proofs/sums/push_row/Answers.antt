use Rattle.std.proofs.Common.{◌^◌, ◌++◌, ◌∙◌, ℤ, pos, ◌*ℤ◌, FitsSigned, ap, rules, get_or, decimal, string_bytes}
use Rattle.std.specs.Int.{w128}
use Rattle.std.proofs.lemmas.Int.{to_z-of_z}
use Rattle.integer_algebra.specs.Sums.{at}
use Rattle.c_writer.specs.Terms.{product_text, part_in}
use Rattle.c_writer.proofs.Texts.{products_none, products_more}
use Rattle.c_writer.proofs.sums.push_row.Goals as goal

pub loop-k-init : goal.loop-k-init
loop-k-init c = products_none (λ k. part_in c.args.part (at c.args.row.now k *ℤ pos (2 ^ c.args.s))) (λ k. get_or c.args.tops.now k 0) (λ k. c.args.family.now ++ decimal k) (string_bytes c.args.text.now)

pub loop-k-preserved : goal.loop-k-preserved
loop-k-preserved c =
    let k = c.loop-k.k in
    let top = get_or c.args.tops.now k 0 in
    let name = c.args.family.now ++ decimal k in
    let x : FitsSigned w128 (at c.args.row.now k) = search rules in
    products_more (λ k. part_in c.args.part (at c.args.row.now k *ℤ pos (2 ^ c.args.s))) (λ k. get_or c.args.tops.now k 0) (λ k. c.args.family.now ++ decimal k) k
    (string_bytes c.args.text.now) (string_bytes c.loop-k.text) (string_bytes c.push_scaled.new.text)
    c.loop-k.invariant (c.in_ok-push_scaled.ensures ∙ ap (λ (z : ℤ). string_bytes c.loop-k.text ++ product_text (part_in c.args.part (z *ℤ pos (2 ^ c.args.s))) top name) (to_z-of_z w128 _ x))
