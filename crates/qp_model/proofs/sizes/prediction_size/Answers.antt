use Rattle.std.proofs.Common.{rules}
use Rattle.qp_model.proofs.sizes.prediction_size.Goals as goal

pub returns : goal.returns
returns c = search rules
