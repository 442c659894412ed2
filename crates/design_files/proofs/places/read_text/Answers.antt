use Rattle.std.proofs.Common.{◌≡◌, ◌∙◌, Some, sym, ap, subst}
use Rattle.std.proofs.lemmas.Result.{err_from_is_err_and}
use Rattle.toml.specs.View.{table_view}
use Rattle.design_files.specs.Document.{document_of}
use Rattle.design_files.specs.Values.{Values, values_of}
use Rattle.design_files.specs.Keys.{seen}
use Rattle.design_files.specs.Places.{key_rules, place_rules}
use Rattle.design_files.specs.DesignText.{FailsRule, HasNumbers}
use Rattle.design_files.specs.AskedText.{asks_fast, plain_values}
use Rattle.design_files.proofs.ReadLaws.{fails_before, fails_after}
use Rattle.design_files.proofs.TextLaws.{no_further}
use Rattle.design_files.proofs.places.read_text.Goals as goal

pub returns-in_err-keys-clause-fault : goal.returns-in_err-keys-clause-fault
returns-in_err-keys-clause-fault c =
    let m = table_view c.in_ok-document.document in
    let known : document_of c.args.bytes.now ≡ Some m = c.in_ok-document.ensures.ok in
    let e = err_from_is_err_and c.from_residual-in_err-keys.result c.from_residual-in_err-keys.ensures.1 in
    rw (e.1, e.2, known) (fails_before (key_rules m) (place_rules (plain_values c.args.any (values_of m))) _ c.in_err-keys.ensures)

pub returns-in_err-parts-clause-fault : goal.returns-in_err-parts-clause-fault
returns-in_err-parts-clause-fault c =
    let m = table_view c.in_ok-document.document in
    let known : document_of c.args.bytes.now ≡ Some m = c.in_ok-document.ensures.ok in
    let found = c.in_ok-keys.ensures in
    let e = err_from_is_err_and c.from_residual-in_err-parts.result c.from_residual-in_err-parts.ensures.1 in
    let plain : seen c.plain_keys-plain.result ≡ plain_values c.args.any (values_of m) = c.plain_keys-plain.ensures ∙ ap (plain_values c.args.any) (sym found.1) in
    rw (e.1, e.2, known) (fails_after (key_rules m) (place_rules (plain_values c.args.any (values_of m))) _ found.0 (subst (λ (v : Values). FailsRule c.in_err-parts.field-0.0 (place_rules v)) plain c.in_err-parts.ensures))

pub returns-clause-text : goal.returns-clause-text
returns-clause-text c =
    let m = table_view c.in_ok-document.document in
    let known : document_of c.args.bytes.now ≡ Some m = c.in_ok-document.ensures.ok in
    let found = c.in_ok-keys.ensures in
    let plain : seen c.plain_keys-plain.result ≡ plain_values c.args.any (values_of m) = c.plain_keys-plain.ensures ∙ ap (plain_values c.args.any) (sym found.1) in
    let (held, (numbers, design)) = c.in_ok-parts.ensures in
    rw (known, c.new.ensures) (record {
      fast = c.asks_fast.ensures ∙ ap (asks_fast c.args.any) (sym found.1);
      numbers = subst (λ (v : Values). HasNumbers v c.in_ok-parts.parts) plain numbers;
      keys = no_further m found.0;
      design = design;
    })
