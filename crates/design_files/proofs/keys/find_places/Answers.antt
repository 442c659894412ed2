use Rattle.std.proofs.Common.{◌+◌, ◌<◌, ℕ, None, get_or, inr, sym, ◌∙◌, subst, arith}
use Rattle.std.specs.Prelude.{IsSome}
use Rattle.std.proofs.lemmas.List.{length-set}
use Rattle.toml.specs.View.{table_view}
use Rattle.design_files.specs.Values.{in_order, keys_stand}
use Rattle.design_files.specs.declared.keys.Keys.{Keys}
use Rattle.design_files.proofs.ReadLaws.{passes_on}
use Rattle.design_files.proofs.FoundLaws.{all_stand, broken_at, found_there, found_more, all_seen}
use Rattle.design_files.proofs.keys.find_places.Goals as goal

pub returns-in_err-values-2 : goal.returns-in_err-values-2
returns-in_err-values-2 c =
    let m = table_view c.args.document.now in
    let i = c.loop-i.i in
    let before : (k : ℕ) → k < i → IsSome (get_or (in_order m) k None) =
    λ k h. subst IsSome (sym (c.loop-i.invariant.found k h)) (found_there c.loop-i.values k (omega (arith, h, c.loop-i.invariant.long))) in
    passes_on {X = Keys} c.from_residual-in_err-values-2.result _ (keys_stand 1 (in_order m)) _ c.from_residual-in_err-values-2.ensures.1
    (inr (broken_at 1 (in_order m) i _ (omega arith) before c.in_err-values-2.ensures.err.1 (i + 1) (omega arith) c.in_err-values-2.ensures.err.0))

pub loop-i-preserved : goal.loop-i-preserved
loop-i-preserved c =
    let m = table_view c.args.document.now in
    let value = c.in_ok-values-2.field-0 in
    record {
      found = found_more (λ k. get_or (in_order m) k None) c.loop-i.values c.loop-i.i value (omega (arith, c.loop-i.invariant.long)) c.in_ok-values-2.ensures.ok c.loop-i.invariant.found;
      long = length-set c.loop-i.values c.loop-i.i value ∙ c.loop-i.invariant.long;
    }

pub returns : goal.returns
returns c =
    let m = table_view c.args.document.now in (
      all_stand 1 (in_order m) (λ k h. subst IsSome (sym (c.loop-i.invariant.found k (omega (arith, h)))) (found_there c.loop-i.values k (omega (arith, h, c.loop-i.invariant.long)))),
      all_seen m (record { values = c.loop-i.values }) (λ k h. c.loop-i.invariant.found k (omega (arith, h))),
    )
