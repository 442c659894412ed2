use Rattle.qp_model.proofs.RuleLaws.{broken_first, test_next, test_last}
use Rattle.qp_model.proofs.part_rules.test_costs.Goals as goal

pub returns-in_err-in_shape : goal.returns-in_err-in_shape
returns-in_err-in_shape c = broken_first _ _ _ _ _ c.from_residual.ensures.1 c.has_size.ensures c.in_err-in_shape.ensures.err

pub returns : goal.returns
returns c =
    test_next _ _ _ _ c.has_size.ensures c.in_ok-in_shape.ensures.ok
    (test_last _ _ _ c.in_range.ensures.ok c.in_range.ensures.err c.are_costs.ensures)
