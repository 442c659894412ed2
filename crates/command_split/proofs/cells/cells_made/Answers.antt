use Rattle.std.proofs.Common.{map}
use Rattle.std.specs.Option.{option_map}
use Rattle.qp_model.specs.problem.Policy.{plans_of}
use Rattle.qp_model.specs.bounds.Printed.{printed}
use Rattle.command_generate.proofs.Making.{none_made}
use Rattle.command_split.proofs.Calling.{done_called, refused_called}
use Rattle.command_split.proofs.cells.cells_made.Goals as goal

pub returns-in-Ok : goal.returns-in-Ok
returns-in-Ok c =
    let made = c.in-Ok.ensures.made in
    record {
      made = made;
      called = done_called c.args.wanted.now.design c.args.wanted.now.fast c.args.cuts.now (map (option_map plans_of) c.args.policies.now) c.in-Ok.made.controllers.items (map printed c.in-Ok.made.bounds.items) made;
      unmade = tt;
    }

pub returns-in-Err : goal.returns-in-Err
returns-in-Err c =
    none_made (refused_called c.args.wanted.now.design c.args.wanted.now.fast c.args.cuts.now (map (option_map plans_of) c.args.policies.now) c.in-Err.refused c.cell_status.result c.cell_status.ensures c.in-Err.ensures.refused)
