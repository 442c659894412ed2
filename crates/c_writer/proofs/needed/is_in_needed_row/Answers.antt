use Rattle.std.proofs.Common.{arith}
use Rattle.c_writer.proofs.needed.is_in_needed_row.Goals as goal

pub has_product-product-requires-clause-row : goal.has_product-product-requires-clause-row
has_product-product-requires-clause-row c = omega (arith, c.requires.row, c.requires.rows)
