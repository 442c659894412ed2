use Rattle.plan_lines.specs.Making.{any_controller}
use Rattle.command_serve.proofs.Unserving.{judged}
use Rattle.command_serve.proofs.cells.outside_all.Goals as goal

pub returns-in-None : goal.returns-in-None
returns-in-None c = judged c.args.cells.now (any_controller c.args.first.now) c.args.state.now c.refused.result c.requires.some c.requires.first c.in-None.ensures c.refused.ensures
