use Rattle.std.specs.Prelude.{map}
use Rattle.std.specs.Option.{option_map}
use Rattle.qp_model.specs.problem.Policy.{plans_of}
use Rattle.qp_model.specs.bounds.Printed.{printed}
use Rattle.cell_maker.specs.Made.{AreMadeTo}
use Rattle.cell_maker.proofs.make.make_cells.Given as goal

abbrev pub invariant-loop-k : goal.invariant-loop-k
invariant-loop-k l = AreMadeTo l.design l.fast l.cuts (map (option_map plans_of) l.policies) l.k l.all.controllers.items (map printed l.all.bounds.items)
