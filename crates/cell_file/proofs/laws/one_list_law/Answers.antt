use Rattle.cell_file.proofs.Texts.{one_cells}
use Rattle.cell_file.proofs.laws.one_list_law.Goals as goal

pub returns : goal.returns
returns c = one_cells
