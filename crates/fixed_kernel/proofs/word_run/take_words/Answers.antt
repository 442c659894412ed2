use Rattle.std.proofs.Common.{get_or, pos, rules, arith, FitsSigned, sym, subst, ◌∙◌}
use Rattle.std.specs.Int.{w64, w128}
use Rattle.std.proofs.lemmas.Int.{to_z-of_z}
use Rattle.std.proofs.lemmas.List.{ext_get_or}
use Rattle.mat_products.specs.Narrow.{IsNarrow}
use Rattle.fixed_kernel.proofs.Copies.{filled_more}
use Rattle.fixed_kernel.proofs.word_run.take_words.Goals as goal

pub narrowed-requires : goal.narrowed-requires
narrowed-requires c =
    let wide : FitsSigned w128 (get_or c.args.from.now c.loop-i.i (pos 0)) = search rules in
    subst IsNarrow (sym (to_z-of_z w128 _ wide)) (c.requires.narrow c.loop-i.i (pos 0) (omega arith))

pub loop-i-preserved : goal.loop-i-preserved
loop-i-preserved c =
    let wide : FitsSigned w128 (get_or c.args.from.now c.loop-i.i (pos 0)) = search rules in
    let word : FitsSigned w64 c.narrowed.result = record { sfits = c.narrowed.type_inv } in
    filled_more (λ k. get_or c.args.from.now k (pos 0)) _ _ _ (omega arith) (to_z-of_z w64 _ word ∙ c.narrowed.ensures ∙ to_z-of_z w128 _ wide) c.loop-i.invariant

pub returns : goal.returns
returns c = ext_get_or (pos 0) c.loop-i.to c.args.from.now (omega arith) (λ k l. c.loop-i.invariant k (omega arith))
