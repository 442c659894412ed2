use Rattle.std.proofs.Common.{◌≡◌, sym, ap, ◌∙◌, rules, Some}
use Rattle.std.specs.Int.{w128}
use mir.Val.{SFits}
use Rattle.std.proofs.lemmas.Int.{to_z-of_z}
use Rattle.std.proofs.lemmas.List.{take_rest}
use Rattle.policy_file.proofs.FieldFacts.{number_found, number_part}
use Rattle.policy_file.proofs.number.number_field.Goals as goal

pub returns-in_default-clause-only : goal.returns-in_default-clause-only
returns-in_default-clause-only c = λ z r.
    let p = number_part c.args.field.now _ c.without_minus-minus.result.1.now c.spaces_before.result c.without_minus-minus.result.0 z r (take_rest c.args.field.now c.spaces_before.result)
    c.spaces_before.ensures.within c.spaces_before.ensures.spaces c.spaces_before.ensures.end c.without_minus-minus.ensures.split c.without_minus-minus.ensures.plain in
    let none = c.in_default.ensures.only r.size (rw (← p.1) r.digits) in
    absurd cc

pub returns-clause-found : goal.returns-clause-found
returns-clause-found c =
    let f : SFits w128 c.signed.result = search rules in
    number_found c.args.field.now c.without_minus-minus.result.1.now c.spaces_before.result c.in-Some.size c.without_minus-minus.result.0 _
    c.spaces_before.ensures.within c.spaces_before.ensures.spaces (sym (take_rest c.args.field.now c.spaces_before.result) ∙ c.without_minus-minus.ensures.split) c.in-Some.ensures.found
    (to_z-of_z w128 c.signed.result f ∙ c.signed.ensures)

pub returns-clause-only : goal.returns-clause-only
returns-clause-only c = λ z r.
    let f : SFits w128 c.signed.result = search rules in
    let p = number_part c.args.field.now _ c.without_minus-minus.result.1.now c.spaces_before.result c.without_minus-minus.result.0 z r (take_rest c.args.field.now c.spaces_before.result)
    c.spaces_before.ensures.within c.spaces_before.ensures.spaces c.spaces_before.ensures.end c.without_minus-minus.ensures.split c.without_minus-minus.ensures.plain in
    let same : Some c.in-Some.size ≡ Some r.size = c.in-Some.ensures.only r.size (rw (← p.1) r.digits) in
    let some : c.in-Some.size ≡ r.size = (cc) in
    ap Some (to_z-of_z w128 c.signed.result f ∙ c.signed.ensures ∙ rw (some, ← p.0) (sym r.value))
