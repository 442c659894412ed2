use Rattle.std.proofs.Common.{◌∙◌, unsigned_abs, ap, arith}
use Rattle.frac_scaled.proofs.Powers.{one_shifted}
use Rattle.settle_check.proofs.still.power.Goals as goal

pub returns-clause-value : goal.returns-clause-value
returns-clause-value c = c.of.ensures.value ∙ one_shifted c.args.bits (omega (arith, c.requires))

pub returns-clause-size : goal.returns-clause-size
returns-clause-size c = c.of.ensures.size ∙ ap unsigned_abs (one_shifted c.args.bits (omega (arith, c.requires)))
