use Rattle.std.proofs.Common.{List, ℤ, [], ◌∷◌, ◌++◌, pos, ap₂, subst, sym, ◌∙◌, arith, rules, get_or, FitsSigned}
use Rattle.std.specs.Prelude.{All}
use Rattle.std.specs.Int.{w128}
use Rattle.std.proofs.lemmas.Int.{to_z-of_z}
use Rattle.std.proofs.lemmas.List.{take_more, take_all}
use Rattle.std.proofs.lemmas.List.Elements.{All-push}
use Rattle.mat_int.proofs.matrix.copied_row.Goals as goal

pub loop-entry-preserved : goal.loop-entry-preserved
loop-entry-preserved c =
    let row = c.args.row.now in
    let i = c.loop-entry.entry-index in
    let entry : FitsSigned w128 (get_or row i (pos 0)) = search rules in
    let same = to_z-of_z w128 _ entry in
    let pushed = c.in_ok-push.ensures.items in
    record {
      items = pushed ∙ ap₂ (λ (xs : List ℤ) (x : ℤ). xs ++ x ∷ []) c.loop-entry.invariant.items same ∙ sym (take_more row i (pos 0) (omega arith));
      word = subst (All (FitsSigned w128)) (sym pushed) (All-push (FitsSigned w128) _ _ c.loop-entry.invariant.word (subst (FitsSigned w128) (sym same) entry));
    }

pub returns-clause-items : goal.returns-clause-items
returns-clause-items c = c.loop-entry.invariant.items ∙ take_all _ _ c.loop-entry-test.false
