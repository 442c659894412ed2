use Rattle.std.proofs.Common.{string_bytes}
use Rattle.c_language.specs.Syntax.{variable}
use Rattle.c_language.specs.Syntax.Family.{Sum}
use Rattle.c_language.specs.Text.{output_line}
use Rattle.c_writer.proofs.Texts.{lines_none, lines_more}
use Rattle.c_writer.proofs.ending.push_outputs.Goals as goal

pub loop-j-init : goal.loop-j-init
loop-j-init c = lines_none (λ j. output_line j (variable Sum j)) (string_bytes c.args.text.now)

pub loop-j-preserved : goal.loop-j-preserved
loop-j-preserved c =
    lines_more (λ j. output_line j (variable Sum j)) c.loop-j.j (string_bytes c.args.text.now) (string_bytes c.loop-j.text) (string_bytes c.push_output.new.text)
    c.loop-j.invariant c.in_ok-push_output.ensures
