use Rattle.command_laws.proofs.Serving.{split_serve_law}
use Rattle.command_laws.proofs.split_serve_law.Goals as goal

pub returns : goal.returns
returns c = split_serve_law
