use Rattle.cell_file.proofs.Texts.{no_prefix}
use Rattle.cell_file.proofs.laws.prefix_law.Goals as goal

pub returns : goal.returns
returns c = no_prefix
