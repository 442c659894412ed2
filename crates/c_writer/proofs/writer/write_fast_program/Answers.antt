use Rattle.std.proofs.Common.{◌∙◌, ap}
use Rattle.qp_model.specs.machine.Controller.{Numbers}
use Rattle.overflow_check.specs.declared.machine.Machine.TheVariants.{Accelerated}
use Rattle.c_program.specs.InParts.{written_program}
use Rattle.c_language.specs.Text.{program_text}
use Rattle.c_writer.proofs.writer.write_fast_program.Goals as goal

pub returns : goal.returns
returns c = c.in_ok-text.ensures ∙ ap (λ (n : Numbers). program_text c.args.name.now (written_program Accelerated n)) c.parts.ensures.value
