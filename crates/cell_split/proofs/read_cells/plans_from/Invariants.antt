use Rattle.std.proofs.Common.{◌≡◌, length, map}
use Rattle.csv.specs.Records.{fields_of}
use Rattle.qp_model.specs.problem.Design.{entries}
use Rattle.qp_model.specs.problem.Parts.{design_of}
use Rattle.policy_file.proofs.MatrixFacts.{Filled}
use Rattle.cell_split.proofs.PlanFacts.{HoldsAt}
use Rattle.cell_split.proofs.read_cells.plans_from.Given as goal

abbrev pub invariant-loop-e : goal.invariant-loop-e
invariant-loop-e l = record {
  heads : length l.dens.items ≡ l.e;
  rows : Filled (HoldsAt (map fields_of l.records) (design_of l.parts) l.start l.dens.items) l.plans (entries (design_of l.parts)) l.e;
}
