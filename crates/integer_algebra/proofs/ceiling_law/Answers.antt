use Rattle.integer_algebra.proofs.DivisionLaws.{ceil_of_is, le-mul-ceil_div, mul-ceil_div-lt}
use Rattle.integer_algebra.proofs.ceiling_law.Goals as goal

pub returns-clause-integers : goal.returns-clause-integers
returns-clause-integers c = ceil_of_is

pub returns-clause-naturals : goal.returns-clause-naturals
returns-clause-naturals c = λ a b h. (le-mul-ceil_div a b h, mul-ceil_div-lt a b h)
