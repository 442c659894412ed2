use Rattle.std.proofs.Common.{◌≡◌, take}
use Rattle.command_serve.specs.Served.{controllers_of}
use Rattle.command_serve.proofs.cells.cells_of.Given as goal

abbrev pub invariant-loop-cell : goal.invariant-loop-cell
invariant-loop-cell l = controllers_of l.kernels.items ≡ take l.cell-index l.cells
