use Rattle.std.proofs.Common.{[], ◌∷◌, All}
use Rattle.qp_model.specs.problem.Range.{IsNumerator}
use Rattle.qp_model.specs.problem.Rules.{shape, range}
use Rattle.qp_model.specs.problem.PartRules.{HasSize}
use Rattle.qp_model.proofs.RuleLaws.{test_last, tests_rule}
use Rattle.qp_model.proofs.part_rules.test_table.Goals as goal

pub returns : goal.returns
returns c =
    let m = c.args.m.now in
    let sized = shape c.args.place (HasSize m c.args.low c.args.high c.args.width) in
    tests_rule (sized ∷ []) (range c.args.place (All (All IsNumerator) m.rows)) _ _ _ _ c.and.ensures
    (test_last sized _ _ c.in_shape.ensures.ok c.in_shape.ensures.err c.has_size.ensures)
    c.in_range.ensures.ok c.in_range.ensures.err c.has_numerators.ensures
