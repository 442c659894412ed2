use Rattle.state_files.proofs.TurnFacts.{turns_told, all_small}
use Rattle.state_files.proofs.turns.read_shifts.Goals as goal

pub returns-clause-small : goal.returns-clause-small
returns-clause-small c = all_small c.args.bytes.now c.args.n c.args.turns c.shifts_in.result c.shifts_in.ensures.found

pub returns-clause-right : goal.returns-clause-right
returns-clause-right c = (turns_told c.args.bytes.now c.args.n c.args.turns c.shifts_in.result c.shifts_in.ensures.found c.shifts_in.ensures.fault).0

pub returns-clause-first : goal.returns-clause-first
returns-clause-first c = (turns_told c.args.bytes.now c.args.n c.args.turns c.shifts_in.result c.shifts_in.ensures.found c.shifts_in.ensures.fault).1
