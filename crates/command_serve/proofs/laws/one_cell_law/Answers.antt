use Rattle.command_serve.proofs.Serving.{one_cell_law}
use Rattle.command_serve.proofs.laws.one_cell_law.Goals as goal

pub returns : goal.returns
returns c = one_cell_law
