use Rattle.std.proofs.Common.{◌≡◌, ◌++◌, string_bytes}
use Rattle.number_text.specs.Lines.{text_of}
use Rattle.c_program.specs.Of.{average_of}
use Rattle.c_language.specs.Text.{average_line, numbered_lines}
use Rattle.c_writer.proofs.averages.push_averages.Given as goal

abbrev pub invariant-loop-j : goal.invariant-loop-j
invariant-loop-j l = string_bytes l.text ≡ string_bytes l.fn.text ++ text_of (numbered_lines (λ j. average_line j (average_of l.steps j)) l.j)
