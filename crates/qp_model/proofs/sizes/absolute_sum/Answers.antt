use Rattle.std.proofs.Common.{length, arith}
use Rattle.integer_algebra.specs.Sums.{at}
use Rattle.qp_model.proofs.SizeFacts.{numerators_size}
use Rattle.qp_model.proofs.sizes.absolute_sum.Goals as goal

pub absolute_sum-requires : goal.absolute_sum-requires
absolute_sum-requires c =
    omega (arith, c.requires.few, numerators_size (length c.args.xs.now) (at c.args.xs.now) c.requires.numerators)

pub returns-clause-small : goal.returns-clause-small
returns-clause-small c =
    omega (arith, c.absolute_sum.ensures, numerators_size (length c.args.xs.now) (at c.args.xs.now) c.requires.numerators)
