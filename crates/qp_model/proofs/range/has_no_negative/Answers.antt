use Rattle.std.proofs.Common.{rules}
use Rattle.qp_model.proofs.range.has_no_negative.Goals as goal

pub returns-then-at-lt0 : goal.returns-then-at-lt0
returns-then-at-lt0 c = search rules

pub loop-i-preserved : goal.loop-i-preserved
loop-i-preserved c = search rules

pub returns : goal.returns
returns c = search rules
