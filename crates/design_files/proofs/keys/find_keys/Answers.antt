use Rattle.std.proofs.Common.{inr}
use Rattle.toml.specs.View.{table_view}
use Rattle.qp_model.proofs.RuleLaws.{all_hold}
use Rattle.design_files.specs.declared.keys.Keys.{Keys}
use Rattle.design_files.specs.Values.{in_order, keys_stand, further_keys}
use Rattle.design_files.specs.Places.{key_rules}
use Rattle.design_files.proofs.ReadLaws.{fails_before, fails_after, passes_on}
use Rattle.design_files.proofs.keys.find_keys.Goals as goal

pub returns-in_err-keys : goal.returns-in_err-keys
unfolding key_rules
returns-in_err-keys c =
    let m = table_view c.args.document.now in
    passes_on {X = Keys} c.from_residual.result _ (key_rules m) _ c.from_residual.ensures.1 (fails_before (keys_stand 1 (in_order m)) (further_keys m) _ c.in_err-keys.ensures)

pub returns-in_err-refuse_further_keys : goal.returns-in_err-refuse_further_keys
unfolding key_rules
returns-in_err-refuse_further_keys c =
    let m = table_view c.args.document.now in
    passes_on {X = Keys} c.from_residual-in_err-refuse_further_keys.result _ (key_rules m) _ c.from_residual-in_err-refuse_further_keys.ensures.1
    (fails_after (keys_stand 1 (in_order m)) (further_keys m) _ c.in_ok-keys.ensures.0 (inr c.in_err-refuse_further_keys.ensures))

pub returns : goal.returns
unfolding key_rules
returns c =
    let m = table_view c.args.document.now in
    (all_hold (keys_stand 1 (in_order m)) (further_keys m) c.in_ok-keys.ensures.0 c.in_ok-refuse_further_keys.ensures, c.in_ok-keys.ensures.1)
