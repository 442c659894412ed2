use Rattle.std.proofs.Common.{◌≡◌, ◌++◌, take, string_bytes, map}
use Rattle.number_text.specs.Lines.{line_of, text_of}
use Rattle.controller_text.proofs.writer.push_rows.Given as goal

abbrev pub invariant-loop-i : goal.invariant-loop-i
invariant-loop-i l = string_bytes l.text ≡ string_bytes l.fn.text ++ text_of (map (line_of l.key) (take l.i l.rows.rows))
