use Rattle.std.proofs.Common.{◌++◌, ◌∷◌, [], ◌∙◌, pos, ap, map, get_or, sym, rules, FitsSigned}
use Rattle.std.specs.Fmt.{signed_decimal}
use Rattle.std.specs.Int.{w128}
use Rattle.std.proofs.lemmas.Int.{to_z-of_z}
use Rattle.std.proofs.lemmas.List.{map_more}
use Rattle.serde_json.specs.Data.{string}
use Rattle.serde_json.specs.View.{view}
use Rattle.bound_report.proofs.number_strings.Goals as goal

pub loop-number-init : goal.loop-number-init
loop-number-init c = ap (map view) c.new-strings.ensures.items

pub loop-number-preserved : goal.loop-number-preserved
loop-number-preserved c =
    let zs = c.args.numbers.now in
    let i = c.loop-number.number-index in
    let fits : FitsSigned w128 (get_or zs i (pos 0)) = search rules in
    c.in_ok-push_string.ensures
    ∙ (λ k. c.loop-number.invariant k ++ string (signed_decimal (to_z-of_z w128 _ fits k)) ∷ [])
    ∙ sym (map_more (λ z. string (signed_decimal z)) zs i (pos 0) c.loop-number-test.true)
