use Rattle.std.proofs.Common.{map, sym, ◌∙◌}
use Rattle.csv.specs.Records.{fields_of}
use Rattle.qp_model.specs.problem.Parts.{design_of}
use Rattle.cell_split.proofs.PolicyFacts.{none_at}
use Rattle.cell_split.proofs.read_cells.cell_from.Goals as goal

pub returns-then-is_none_at-clause-found : goal.returns-then-is_none_at-clause-found
returns-then-is_none_at-clause-found c = none_at (map fields_of c.args.records.now) (design_of c.args.parts.now) c.args.start (sym c.if-is_none_at.true ∙ c.is_none_at.ensures)
