use Rattle.controller_file.proofs.Uniqueness.{one_any_controller}
use Rattle.controller_file.proofs.laws.one_controller_law.Goals as goal

pub returns : goal.returns
returns c = one_any_controller
