use Rattle.std.proofs.Common.{arith}
use Rattle.mat_int.specs.Lines.{lists}
use Rattle.cell_split.proofs.CountFacts.{some_cell}
use Rattle.cell_split.proofs.cuts.Cuts.cells.Goals as goal

pub returns-clause-some : goal.returns-clause-some
returns-clause-some c = omega (arith, c.self.invariant.0, some_cell (lists c.self.inside.cuts.items))
