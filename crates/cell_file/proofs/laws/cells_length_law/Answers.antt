use Rattle.cell_file.proofs.Lengths.{cells_length_law}
use Rattle.cell_file.proofs.laws.cells_length_law.Goals as goal

pub returns : goal.returns
returns c = cells_length_law
