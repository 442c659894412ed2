use Rattle.qp_model.specs.machine.Controller.{numbers}
use Rattle.overflow_check.proofs.Machines.{as_last}
use Rattle.c_writer.proofs.parts_test.has_program.Goals as goal

pub lists_of-requires : goal.lists_of-requires
lists_of-requires c = as_last c.args.machine (numbers c.args.c.now) c.requires
