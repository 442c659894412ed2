use Rattle.std.proofs.Common.{◌≡◌, ◌++◌, string_bytes}
use Rattle.number_text.specs.Lines.{text_of}
use Rattle.c_writer.specs.Measured.{program_in}
use Rattle.c_language.specs.Text.{refusal_line, numbered_lines}
use Rattle.c_writer.proofs.writer.push_refusals.Given as goal

abbrev pub invariant-loop-i : goal.invariant-loop-i
invariant-loop-i l = string_bytes l.text ≡ string_bytes l.fn.text ++ text_of (numbered_lines (refusal_line (program_in l.from)) l.i)
