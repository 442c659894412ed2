use Rattle.command_line.proofs.OneCommand.{one_command}
use Rattle.command_line.proofs.words.one_command_law.Goals as goal

pub returns : goal.returns
returns c = one_command
