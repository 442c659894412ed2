use Rattle.std.proofs.Common.{List, ◌++◌}
use Rattle.std.proofs.lemmas.Result.{err_from_is_err_and}
use Rattle.qp_model.specs.declared.design_parts.DesignParts.{DesignParts}
use Rattle.qp_model.specs.problem.Rules.{Rule}
use Rattle.qp_model.specs.problem.PartRules.{size_rules, plant_rules, cost_rules, limit_rules, box_rules, target_rules, part_rules}
use Rattle.qp_model.proofs.RuleLaws.{broken_before, tests_and, test_after}
use Rattle.qp_model.proofs.part_rules.test_parts.Goals as goal

abbrev after_sizes : DesignParts → List Rule
after_sizes p = plant_rules p ++ (cost_rules p ++ (limit_rules p ++ (box_rules p ++ target_rules p)))

pub returns-in_err-test_sizes : goal.returns-in_err-test_sizes
unfolding part_rules
returns-in_err-test_sizes c =
    let p = c.args.p.now in
    let e = err_from_is_err_and c.from_residual.result c.from_residual.ensures.1 in
    rw (e.1, e.2) (broken_before (size_rules p) (after_sizes p) _ c.in_err-test_sizes.ensures)

pub returns : goal.returns
unfolding part_rules
returns c =
    let p = c.args.p.now in
    test_after (size_rules p) (after_sizes p) c.and-4.result c.in_ok-test_sizes.ensures
    (tests_and (plant_rules p ++ (cost_rules p ++ (limit_rules p ++ box_rules p))) (target_rules p) _ _ _ c.and-4.ensures
    (tests_and (plant_rules p ++ (cost_rules p ++ limit_rules p)) (box_rules p) _ _ _ c.and-3.ensures
    (tests_and (plant_rules p ++ cost_rules p) (limit_rules p) _ _ _ c.and-2.ensures
    (tests_and (plant_rules p) (cost_rules p) _ _ _ c.and.ensures c.test_plant.ensures c.test_cost.ensures)
    c.test_limits.ensures) c.test_box.ensures) c.test_targets.ensures)
