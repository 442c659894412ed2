use Rattle.std.proofs.Common.{arith}
use Rattle.std.proofs.lemmas.List.{take_rest}
use Rattle.policy_file.proofs.FieldFacts.{digits_end, spaces_end, cut_digits, found_some, only_some}
use Rattle.policy_file.proofs.number.digits_field.Goals as goal
use Rattle.policy_file.proofs.number.digits_field.Goals.{then-count-gt19-via-then-count-gt19, then-count-gt19-via-else-count-gt19+then-spaces_before-rest}

pub returns-then-count-gt19-clause-only : goal.returns-then-count-gt19-clause-only
returns-then-count-gt19-clause-only c = λ n r.
    let e = digits_end c.args.text.now n c.digits_before-count.result r c.digits_before-count.ensures.within c.digits_before-count.ensures.digits c.digits_before-count.ensures.end in
    elim c.then-count-gt19.branch [
      | then-count-gt19-via-then-count-gt19 w ↦ absurd (omega (arith, e, r.few))
      | then-count-gt19-via-else-count-gt19+then-spaces_before-rest w ↦
          absurd (omega (arith, spaces_end c.args.text.now _ n c.digits_before-count.result w.spaces_before.result r e (take_rest c.args.text.now c.digits_before-count.result) w.spaces_before.ensures.end))
    ]

pub value_of-requires : goal.value_of-requires
value_of-requires c = cut_digits c.args.text.now c.digits_before-count.result c.digits_before-count.ensures.within c.digits_before-count.ensures.digits

pub returns-clause-found : goal.returns-clause-found
returns-clause-found c =
    found_some c.args.text.now _ c.digits_before-count.result c.spaces_before.result c.value_of.result (take_rest c.args.text.now c.digits_before-count.result)
    c.digits_before-count.ensures.within (omega arith)
    c.digits_before-count.ensures.digits (omega arith) c.spaces_before.ensures.spaces c.value_of.ensures

pub returns-clause-only : goal.returns-clause-only
returns-clause-only c = λ n r.
    let e = digits_end c.args.text.now n c.digits_before-count.result r c.digits_before-count.ensures.within c.digits_before-count.ensures.digits c.digits_before-count.ensures.end in
    only_some c.args.text.now n c.digits_before-count.result c.value_of.result r e c.value_of.ensures
