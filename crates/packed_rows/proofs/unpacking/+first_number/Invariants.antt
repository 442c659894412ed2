use Rattle.std.proofs.Common.{length}
use Rattle.packed_rows.proofs.unpacking.+first_number.Given as goal

abbrev pub decreases-first_number : goal.decreases-first_number
decreases-first_number l = length l.bytes.now
