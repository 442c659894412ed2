use Rattle.std.proofs.Common.{arith}
use Rattle.std.proofs.lemmas.Grind.{elements}
use Rattle.mat_products.proofs.narrow.is_narrow_matrix.Goals as goal

pub returns : goal.returns
returns c = grind (arith, elements)
