use Rattle.hessian_check.proofs.RowExponentLaws as laws
use Rattle.hessian_check.proofs.laws.one_list_law.Goals as goal

pub returns : goal.returns
returns c = laws.one_list_law
