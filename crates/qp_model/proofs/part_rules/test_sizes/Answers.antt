use Rattle.std.proofs.Common.{[], ◌∷◌}
use Rattle.qp_model.specs.problem.Limits.{text_version, last_version, most_states, most_inputs}
use Rattle.qp_model.specs.problem.Range.{LiesIn}
use Rattle.qp_model.specs.problem.Rules.{range}
use Rattle.qp_model.proofs.RuleLaws.{test_last, tests_rule}
use Rattle.qp_model.proofs.PartTests.{lies_test}
use Rattle.qp_model.proofs.part_rules.test_sizes.Goals as goal

pub returns : goal.returns
returns c =
    let p = c.args.p.now in
    let version = range 1 (LiesIn text_version last_version p.version) in
    let states = range 2 (LiesIn 1 (most_states p.version) p.states) in
    let inputs = range 3 (LiesIn 1 (most_inputs p.version) p.inputs) in
    tests_rule (version ∷ states ∷ inputs ∷ []) _ _ _ _ _ c.and-3.ensures
    (tests_rule (version ∷ states ∷ []) inputs _ _ _ _ c.and-2.ensures
    (tests_rule (version ∷ []) states _ _ _ _ c.and.ensures
    (test_last version _ _ c.in_range.ensures.ok c.in_range.ensures.err c.lies_in.ensures)
    c.in_range-2.ensures.ok c.in_range-2.ensures.err (lies_test _ _ _ _ _ c.most_states.ensures c.lies_in-2.ensures))
    c.in_range-3.ensures.ok c.in_range-3.ensures.err c.lies_in-3.ensures)
    c.in_range-4.ensures.ok c.in_range-4.ensures.err (lies_test _ _ _ _ _ c.most_stages.ensures c.lies_in-4.ensures)
