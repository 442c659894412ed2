use Rattle.integer_algebra.proofs.SquareLaws.{two_products_le}
use Rattle.integer_algebra.proofs.two_products_law.Goals as goal

pub returns : goal.returns
returns c = two_products_le
