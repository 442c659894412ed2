use Rattle.command_serve.proofs.ServedLines.{served_some}
use Rattle.command_serve.proofs.cells.CellsPreparedMachine.line.Goals as goal

pub returns-clause-some : goal.returns-clause-some
returns-clause-some c = served_some c.args.self.now.cells.now c.args.state.now c.in_ok-served_line.field-0.items c.in_ok-served_line.ensures.line
