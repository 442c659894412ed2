use Rattle.std.proofs.Common.{ap, refl, Err}
use Rattle.std.proofs.lemmas.Result.{err_from_is_err_and}
use Rattle.std.proofs.lemmas.Bool.{false≢true}
use Rattle.qp_model.specs.problem.PartRules.{part_rules}
use Rattle.qp_model.proofs.RuleLaws.{none_broken, one_fault}
use Rattle.qp_model.proofs.PartLaws.{design_from_rules, rules_from_design}
use Rattle.qp_model.proofs.design.Design.from_parts.Goals as goal

pub returns-in_err-test_parts-clause-sound : goal.returns-in_err-test_parts-clause-sound
returns-in_err-test_parts-clause-sound c =
    let p = c.args.parts in
    let e = err_from_is_err_and c.from_residual.result c.from_residual.ensures.1 in
    rw e.1 (λ ok. absurd (false≢true ok), λ d. absurd (none_broken (part_rules p) _ (rules_from_design p d) c.in_err-test_parts.ensures))

pub returns-in_err-test_parts-clause-every_fault : goal.returns-in_err-test_parts-clause-every_fault
returns-in_err-test_parts-clause-every_fault c =
    let p = c.args.parts in
    let e = err_from_is_err_and c.from_residual.result c.from_residual.ensures.1 in
    rw (e.1, e.2) (λ fault broken. ap Err (one_fault (part_rules p) _ fault c.in_err-test_parts.ensures broken))

pub invariant_of-result : goal.invariant_of-result
invariant_of-result c = design_from_rules c.args.parts c.in_ok-test_parts.ensures

pub returns-clause-sound : goal.returns-clause-sound
returns-clause-sound c = (λ ok. design_from_rules c.args.parts c.in_ok-test_parts.ensures, λ d. refl)

pub returns-clause-every_fault : goal.returns-clause-every_fault
returns-clause-every_fault c = λ fault broken. absurd (none_broken (part_rules c.args.parts) fault c.in_ok-test_parts.ensures broken)
