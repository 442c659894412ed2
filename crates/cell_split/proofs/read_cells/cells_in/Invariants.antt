use Rattle.std.proofs.Common.{map}
use Rattle.std.specs.Option.{option_map}
use Rattle.csv.specs.Records.{fields_of}
use Rattle.qp_model.specs.problem.Parts.{design_of}
use Rattle.qp_model.specs.problem.Policy.{plans_of}
use Rattle.cell_split.specs.ReadCells.{HoldCells}
use Rattle.cell_split.proofs.read_cells.cells_in.Given as goal

abbrev pub invariant-loop : goal.invariant-loop
invariant-loop l = HoldCells (map fields_of l.records) (design_of l.parts) l.counter (map (option_map plans_of) l.policies.items) l.end
