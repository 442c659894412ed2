use Rattle.std.proofs.Common.{arith}
use Rattle.overflow_check.proofs.absolute_sums.weighed.Goals as goal

pub ceil_shift-requires-clause-small : goal.ceil_shift-requires-clause-small
ceil_shift-requires-clause-small c = c.requires.small

pub ceil_shift-requires-clause-bits : goal.ceil_shift-requires-clause-bits
ceil_shift-requires-clause-bits c = omega (arith, c.requires.bits)
