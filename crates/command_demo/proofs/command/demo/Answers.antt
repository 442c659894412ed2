use Rattle.std.proofs.Common.{refl}
use Rattle.command_line.proofs.Following.{nothing_printed}
use Rattle.command_line.specs.declared.status.Status.TheVariants.{Memory}
use Rattle.command_demo.proofs.PrintedText.{quiet}
use Rattle.command_demo.proofs.command.demo.Goals as goal

pub returns-in_default : goal.returns-in_default
returns-in_default g c = nothing_printed (λ caused. absurd (caused.memory refl)) (λ file e. cc) (λ file e. cc) (λ old. quiet c.args.number Memory old (λ e. cc) (λ e. cc))

pub returns : goal.returns
returns g c = c.demo_of.ensures c.args.number c.in-Ok.ensures.made
