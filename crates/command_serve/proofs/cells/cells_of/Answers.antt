use Rattle.std.proofs.Common.{◌≡◌, ◌++◌, ◌∷◌, [], ◌<◌, true, length, ap, ◌∙◌, rules}
use Rattle.std.specs.Result.{is_ok}
use Rattle.command_serve.specs.Served.{controllers_of}
use Rattle.command_serve.proofs.Serving.{kernels_more}
use Rattle.command_serve.proofs.cells.cells_of.Goals as goal

pub loop-cell-preserved : goal.loop-cell-preserved
loop-cell-preserved c =
    let cells = c.args.cells.now in
    let i = c.loop-cell.cell-index in
    let lt : i < length cells = search rules in
    let good : is_ok c.push.result ≡ true = search rules in
    let items : c.push.new.self.items ≡ c.loop-cell.kernels.items ++ c.in_ok-kernel.kernel ∷ [] = rw good at c.push.ensures.items in
    ap controllers_of items ∙ kernels_more c.loop-cell.kernels.items cells i c.in_ok-kernel.kernel c.cell-item.result c.loop-cell.invariant lt c.in_ok-kernel.ensures c.cell-item.is
