use Rattle.std.proofs.Common.{◌≡◌, ◌++◌, string_bytes}
use Rattle.number_text.specs.Lines.{text_of}
use Rattle.c_language.specs.Syntax.{variable}
use Rattle.c_language.specs.Syntax.Family.{Sum}
use Rattle.c_language.specs.Text.{output_line, numbered_lines}
use Rattle.c_writer.proofs.ending.push_outputs.Given as goal

abbrev pub invariant-loop-j : goal.invariant-loop-j
invariant-loop-j l = string_bytes l.text ≡ string_bytes l.fn.text ++ text_of (numbered_lines (λ j. output_line j (variable Sum j)) l.j)
