use Rattle.std.proofs.Common.{ap, ◌∙◌}
use Rattle.qp_model.specs.machine.Controller.{Numbers}
use Rattle.command_serve.proofs.Serving.{first_width}
use Rattle.command_serve.proofs.command.state_size.Goals as goal

pub returns : goal.returns
returns c = ap (λ (k : Numbers). k.states) c.parts.ensures.value ∙ first_width c.args.cells.now c.index-cells-0.result c.requires c.index-cells-0.is
