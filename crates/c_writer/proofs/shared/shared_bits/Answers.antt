use Rattle.std.proofs.Common.{length}
use Rattle.c_writer.proofs.Lists.{bits_none, bits_more}
use Rattle.c_writer.proofs.shared.shared_bits.Goals as goal

pub loop-k-init : goal.loop-k-init
loop-k-init c = bits_none c.args.row.now (length c.args.row.now)

pub loop-k-preserved : goal.loop-k-preserved
loop-k-preserved c =
    bits_more c.args.row.now (length c.args.row.now) c.loop-k.k c.loop-k.bits c.next_bits-bits.result c.loop-k.invariant c.next_bits-bits.ensures
