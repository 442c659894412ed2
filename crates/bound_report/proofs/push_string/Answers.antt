use Rattle.std.proofs.Common.{◌≡◌, ◌++◌, ◌∷◌, [], ◌∙◌, ap, map, string_bytes, rules}
use Rattle.std.specs.Fmt.{signed_decimal}
use Rattle.std.specs.Int.{w128}
use Rattle.std.proofs.lemmas.Int.{to_z-of_z}
use Rattle.std.proofs.lemmas.List.{map-append}
use Rattle.serde_json.specs.Data.{string}
use Rattle.serde_json.specs.View.{view}
use Rattle.serde_json.specs.declared.value.Value.{String as StringValue, the_lemmas}
use Rattle.bound_report.proofs.push_string.Goals as goal

pub returns : goal.returns
returns c =
    let text = c.in_ok-text.text in
    let last : view (StringValue text) ≡ string (string_bytes text) = search (rules, the_lemmas) in
    ap (map view) c.in_ok-push.ensures.items ∙ map-append view c.args.strings.now.items (StringValue text ∷ [])
    ∙ (λ k. map view c.args.strings.now.items ++ (last ∙ ap string (c.in_ok-text.ensures.ok ∙ ap signed_decimal (to_z-of_z w128 _ c.ranges.number))) k ∷ [])
