use Rattle.cell_split.proofs.CellLaws as laws
use Rattle.cell_split.proofs.laws.split_law.Goals as goal

pub returns : goal.returns
returns c = laws.split_law
