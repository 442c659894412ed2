use Rattle.std.proofs.Common.{◌<◌, length, sym, ap, ◌∙◌, subst, arith}
use Rattle.plan_lines.specs.ControllerFile.AnyText.{any_numbers}
use Rattle.plan_lines.specs.ControllerFile.declared.any_controller.AnyController.{AnyController}
use Rattle.qp_model.specs.machine.Machine.{IsAdmissible}
use Rattle.plan_lines.specs.Making.{any_controller}
use Rattle.command_serve.proofs.Serving.{none_never, some_cell, any_default, kernel_of, kernels_long, kernels_kept}
use Rattle.command_serve.proofs.cells.served_line.Goals as goal

pub unreachable-requires : goal.unreachable-requires
unreachable-requires c = none_never c.args.cells.now c.args.state.now c.in_default.ensures c.requires.held

pub line_from-requires : goal.line_from-requires
line_from-requires c =
    let cells = c.args.cells.now in
    let first = c.in-Some.ensures in
    let d = some_cell cells c.in-Some.cell first.there in
    subst (λ (k : AnyController). IsAdmissible (any_numbers k) c.args.state.now) (sym (kernel_of c.args.kernels.now cells c.in-Some.cell c.index-kernels-cell.result d c.requires.kernels first.there)) (first.here d)

pub returns-clause-kernels : goal.returns-clause-kernels
returns-clause-kernels c =
    let kernels = c.args.kernels.now in
    let lt : c.in-Some.cell < length kernels = omega (arith, c.in-Some.ensures.there, kernels_long kernels c.args.cells.now c.requires.kernels) in
    let same = any_default kernels c.in-Some.cell c.index-kernels-cell.result c.line_from.new.kernel lt in
    kernels_kept kernels c.in-Some.cell c.line_from.new.kernel lt (c.line_from.ensures.controller ∙ ap any_controller same)
