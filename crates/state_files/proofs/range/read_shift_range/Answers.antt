use Rattle.state_files.proofs.RangeFacts.{range_told, all_sized}
use Rattle.state_files.proofs.range.read_shift_range.Goals as goal

pub returns-clause-sized : goal.returns-clause-sized
returns-clause-sized c = all_sized c.args.bytes.now c.args.n c.range_of.result c.range_of.ensures.found

pub returns-clause-right : goal.returns-clause-right
returns-clause-right c = (range_told c.args.bytes.now c.args.n c.range_of.result c.range_of.ensures.found c.range_of.ensures.fault).0

pub returns-clause-first : goal.returns-clause-first
returns-clause-first c = (range_told c.args.bytes.now c.args.n c.range_of.result c.range_of.ensures.found c.range_of.ensures.fault).1
