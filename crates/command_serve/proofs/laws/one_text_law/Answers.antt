use Rattle.command_serve.proofs.ServedLines.{one_text_law}
use Rattle.command_serve.proofs.laws.one_text_law.Goals as goal

pub returns : goal.returns
returns c = one_text_law
