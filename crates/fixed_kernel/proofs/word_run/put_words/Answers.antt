use Rattle.std.proofs.Common.{get_or, pos, rules, arith, FitsSigned, ◌∙◌}
use Rattle.std.specs.Int.{w64, w128}
use Rattle.std.proofs.lemmas.Int.{to_z-of_z}
use Rattle.std.proofs.lemmas.List.{ext_get_or}
use Rattle.fixed_kernel.proofs.Copies.{filled_more}
use Rattle.fixed_kernel.proofs.word_run.put_words.Goals as goal

pub loop-i-preserved : goal.loop-i-preserved
loop-i-preserved c =
    let word : FitsSigned w64 (get_or c.args.from.now c.loop-i.i (pos 0)) = search rules in
    let wide : FitsSigned w128 c.from.result = record { sfits = c.from.type_inv } in
    filled_more (λ k. get_or c.args.from.now k (pos 0)) _ _ _ (omega arith) (to_z-of_z w128 _ wide ∙ c.from.ensures ∙ to_z-of_z w64 _ word) c.loop-i.invariant

pub returns : goal.returns
returns c = ext_get_or (pos 0) c.loop-i.to c.args.from.now (omega arith) (λ k l. c.loop-i.invariant k (omega arith))
