use Rattle.std.proofs.Common.{pos, subst, sym, ◌∙◌, arith, rules, get_or, FitsSigned}
use Rattle.std.specs.Prelude.{All}
use Rattle.std.specs.Int.{w64, w128}
use Rattle.std.proofs.lemmas.Int.{to_z-of_z}
use Rattle.std.proofs.lemmas.List.{take_all}
use Rattle.std.proofs.lemmas.List.Elements.{All-push}
use Rattle.fixed_kernel.proofs.Copies.{copied_more}
use Rattle.fixed_kernel.proofs.word_mat.word_row.Goals as goal

pub loop-entry-preserved : goal.loop-entry-preserved
loop-entry-preserved c =
    let row = c.args.row.now in
    let i = c.loop-entry.entry-index in
    let word : FitsSigned w64 c.narrowed.result = record { sfits = c.narrowed.type_inv } in
    let entry : FitsSigned w128 (get_or row i (pos 0)) = search rules in
    let same = to_z-of_z w64 _ word ∙ c.narrowed.ensures ∙ to_z-of_z w128 _ entry in
    record {
      items = copied_more _ _ row i (pos 0) _ (omega arith) c.loop-entry.invariant.items c.in_ok-push.ensures.items same;
      word = subst (All (FitsSigned w64)) (sym c.in_ok-push.ensures.items) (All-push (FitsSigned w64) _ _ c.loop-entry.invariant.word (subst (FitsSigned w64) (sym (to_z-of_z w64 _ word)) word));
    }

pub returns-clause-items : goal.returns-clause-items
returns-clause-items c = c.loop-entry.invariant.items ∙ take_all _ _ c.loop-entry-test.false
