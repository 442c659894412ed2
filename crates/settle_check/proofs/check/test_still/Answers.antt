use Rattle.qp_model.specs.machine.Controller.{numbers}
use Rattle.settle_check.specs.Still.{box_of}
use Rattle.settle_check.proofs.CheckFacts.{first_fault, all_still}
use Rattle.settle_check.proofs.check.test_still.Goals as goal

pub returns-clause-still : goal.returns-clause-still
returns-clause-still c = all_still (numbers c.args.c.now) (box_of c.args.low.now c.args.high.now) c.test_rows.result c.test_rows.ensures.found

pub returns-clause-first : goal.returns-clause-first
returns-clause-first c = first_fault (numbers c.args.c.now) (box_of c.args.low.now c.args.high.now) c.test_rows.result c.test_rows.ensures.found c.test_rows.ensures.fault
