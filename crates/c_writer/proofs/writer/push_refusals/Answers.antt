use Rattle.std.proofs.Common.{string_bytes}
use Rattle.c_writer.specs.Measured.{program_in}
use Rattle.c_language.specs.Text.{refusal_line}
use Rattle.c_writer.proofs.Texts.{lines_none, lines_more}
use Rattle.c_writer.proofs.writer.push_refusals.Goals as goal

pub loop-i-init : goal.loop-i-init
loop-i-init c = lines_none (refusal_line (program_in c.args.from.now)) (string_bytes c.args.text.now)

pub loop-i-preserved : goal.loop-i-preserved
loop-i-preserved c =
    lines_more (refusal_line (program_in c.args.from.now)) c.loop-i.i (string_bytes c.args.text.now) (string_bytes c.loop-i.text) (string_bytes c.push_refusal_of.new.text)
    c.loop-i.invariant c.in_ok-push_refusal_of.ensures
