use Rattle.std.proofs.Common.{ℕ, ℤ, List, [], length, ap, subst, sym, ◌∙◌, arith}
use Rattle.std.specs.Prelude.{All}
use Rattle.std.proofs.lemmas.List.{take_all}
use Rattle.std.proofs.lemmas.List.Elements.{All-push}
use Rattle.mat_products.specs.Narrow.{IsNarrow}
use Rattle.fixed_kernel.specs.WordLines.{HasColumns}
use Rattle.fixed_kernel.proofs.Copies.{copied_more}
use Rattle.fixed_kernel.proofs.word_mat.WordMat.of.Goals as goal

pub of-requires : goal.of-requires
of-requires c = subst (All IsNarrow) (sym c.row.ensures.value) (c.requires c.loop-i.i [] (omega arith))

pub loop-i-preserved : goal.loop-i-preserved
loop-i-preserved c =
    let row = c.in_ok-of.field-0 in
    let wide : HasColumns c.cols-cols.result row = ap (λ (xs : List ℤ). length xs) c.in_ok-of.ensures ∙ c.row.ensures.len ∙ sym c.cols-cols.ensures in
    record {
      long = subst (All (HasColumns c.cols-cols.result)) (sym c.in_ok-push.ensures.items) (All-push (HasColumns c.cols-cols.result) _ row c.loop-i.invariant.long wide);
      same = copied_more _ _ c.args.a.now.rows c.loop-i.i [] row (omega arith) c.loop-i.invariant.same c.in_ok-push.ensures.items (c.in_ok-of.ensures ∙ c.row.ensures.value);
    }

pub invariant_of-result : goal.invariant_of-result
invariant_of-result c = c.loop-i.invariant.long

pub returns : goal.returns
returns c =
    let whole = c.loop-i.invariant.same ∙ take_all c.loop-i.i c.args.a.now.rows (omega arith) in
    ap (λ (rows : List (List ℤ)). record { cols = c.cols-cols.result; rows = rows }) whole ∙ ap (λ (cols : ℕ). record { cols = cols; rows = c.args.a.now.rows }) c.cols-cols.ensures
