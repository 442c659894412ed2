use Rattle.qp_model.specs.problem.Parts.{design_of}
use Rattle.corner_margin.proofs.SizeFacts.{is_limited, fine_prediction}
use Rattle.corner_margin.proofs.sizes.is_prediction_limited.Goals as goal

pub returns-then-fine : goal.returns-then-fine
returns-then-fine c = rw c.if-fine.true (is_limited _ _ _ _ c.is_some.ensures (fine_prediction _ (design_of c.args.parts.now) c.last_reach.ensures))

pub returns-else-fine : goal.returns-else-fine
returns-else-fine c = rw c.if-fine.false (is_limited _ _ _ _ c.is_some-else-fine.ensures c.prediction_size.ensures)
