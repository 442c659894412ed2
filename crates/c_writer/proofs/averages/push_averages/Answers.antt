use Rattle.std.proofs.Common.{string_bytes}
use Rattle.c_program.specs.Of.{average_of}
use Rattle.c_language.specs.Text.{average_line}
use Rattle.c_writer.proofs.Texts.{lines_none, lines_more}
use Rattle.c_writer.proofs.averages.push_averages.Goals as goal

pub loop-j-init : goal.loop-j-init
loop-j-init c = lines_none (λ j. average_line j (average_of c.args.steps j)) (string_bytes c.args.text.now)

pub loop-j-preserved : goal.loop-j-preserved
loop-j-preserved c =
    lines_more (λ j. average_line j (average_of c.args.steps j)) c.loop-j.j (string_bytes c.args.text.now) (string_bytes c.loop-j.text) (string_bytes c.push_average.new.text)
    c.loop-j.invariant c.in_ok-push_average.ensures
