use Rattle.std.proofs.Common.{◌≡◌, ap, ◌∙◌, rules, Some}
use Rattle.std.specs.Int.{w128}
use mir.Val.{SFits}
use Rattle.std.proofs.lemmas.Int.{to_z-of_z}
use Rattle.policy_file.proofs.RuleFacts.{rule_number, rule_range}
use Rattle.policy_file.proofs.record.number_at.Goals as goal

pub returns-in_default-clause-only : goal.returns-in_default-clause-only
returns-in_default-clause-only c = λ z r.
    let none = c.in_default.ensures.only z (rule_number c.args.layout c.args.i c.args.field.now z r) in
    absurd cc

pub returns-then-is_in_range-clause-only : goal.returns-then-is_in_range-clause-only
returns-then-is_in_range-clause-only c = λ z r.
    let f : SFits w128 c.in-Some.number = search rules in
    ap Some (to_z-of_z w128 c.in-Some.number f) ∙ c.in-Some.ensures.only z (rule_number c.args.layout c.args.i c.args.field.now z r)

pub returns-else-is_in_range-clause-only : goal.returns-else-is_in_range-clause-only
returns-else-is_in_range-clause-only c = λ z r.
    let f : SFits w128 c.in-Some.number = search rules in
    let some : Some c.in-Some.number ≡ Some z = c.in-Some.ensures.only z (rule_number c.args.layout c.args.i c.args.field.now z r) in
    let same : c.in-Some.number ≡ z = (cc) in
    let right = c.is_in_range.ensures.1 (rw (to_z-of_z w128 c.in-Some.number f, same) (rule_range c.args.layout c.args.i c.args.field.now z r)) in
    absurd cc
