use Rattle.std.proofs.Common.{arith, refl}
use Rattle.std.specs.Int.{w128}
use Rattle.std.proofs.lemmas.Int.{to_z-of_z}
use Rattle.approx_inverse.proofs.WordLaws.{kept_on, still_placed}
use Rattle.approx_inverse.proofs.column.descend.Goals as goal

pub begin-requires-clause-rows : goal.begin-requires-clause-rows
begin-requires-clause-rows c = (c.requires.task 0 (omega arith)).rows

pub begin-requires-clause-cols : goal.begin-requires-clause-cols
begin-requires-clause-cols c = (c.requires.task 0 (omega arith)).cols

pub begin-requires-clause-bits : goal.begin-requires-clause-bits
begin-requires-clause-bits c = c.requires.bits

pub begin-requires-clause-placed : goal.begin-requires-clause-placed
begin-requires-clause-placed c = c.requires.placed

pub settle-requires-clause-task : goal.settle-requires-clause-task
settle-requires-clause-task c = rw (to_z-of_z w128 _ c.ranges.floor) (c.requires.task c.args.f (omega arith))

pub settle-requires-clause-placed : goal.settle-requires-clause-placed
settle-requires-clause-placed c = still_placed c.args.region.now c.begin.new.region c.args.x.now c.args.r.now _ c.requires.placed c.begin.ensures.kept

pub settle-requires-clause-descent : goal.settle-requires-clause-descent
settle-requires-clause-descent c = c.if-begin.ensures.descent refl

pub solve_within-requires-clause-bits : goal.solve_within-requires-clause-bits
solve_within-requires-clause-bits c = c.requires.bits

pub solve_within-requires-clause-task : goal.solve_within-requires-clause-task
solve_within-requires-clause-task c = rw (to_z-of_z w128 _ c.ranges.floor) c.requires.task

pub solve_within-requires-clause-placed : goal.solve_within-requires-clause-placed
solve_within-requires-clause-placed c = still_placed c.args.region.now c.begin.new.region c.args.x.now c.args.r.now _ c.requires.placed c.begin.ensures.kept

pub solve_within-requires-clause-column_small : goal.solve_within-requires-clause-column_small
solve_within-requires-clause-column_small c = c.requires.column_small

pub returns-then-begin-clause-descent : goal.returns-then-begin-clause-descent
returns-then-begin-clause-descent c = c.settle.ensures.descent

pub returns-then-begin-clause-good : goal.returns-then-begin-clause-good
returns-then-begin-clause-good c = c.settle.ensures.good

pub returns-then-begin-clause-kept : goal.returns-then-begin-clause-kept
returns-then-begin-clause-kept c = kept_on c.args.region.now c.begin.new.region c.settle.new.region c.args.x.now c.args.r.now c.begin.ensures.kept c.settle.ensures.kept

pub returns-else-begin-clause-descent : goal.returns-else-begin-clause-descent
returns-else-begin-clause-descent c = c.solve_within.ensures.descent

pub returns-else-begin-clause-good : goal.returns-else-begin-clause-good
returns-else-begin-clause-good c = c.solve_within.ensures.good

pub returns-else-begin-clause-kept : goal.returns-else-begin-clause-kept
returns-else-begin-clause-kept c = kept_on c.args.region.now c.begin.new.region c.solve_within.new.region c.args.x.now c.args.r.now c.begin.ensures.kept c.solve_within.ensures.kept
