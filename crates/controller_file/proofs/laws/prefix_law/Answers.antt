use Rattle.controller_file.proofs.Uniqueness.{no_prefix}
use Rattle.controller_file.proofs.laws.prefix_law.Goals as goal

pub returns : goal.returns
returns c = no_prefix
