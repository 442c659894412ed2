use Rattle.std.proofs.Common.{◌≡◌, ◌++◌, take, string_bytes}
use Rattle.number_text.specs.Lines.{text_of}
use Rattle.bound_report.specs.Report.{numbered_violations}
use Rattle.bound_report.proofs.push_rows.Given as goal

abbrev pub invariant-loop-i : goal.invariant-loop-i
invariant-loop-i l = string_bytes l.text ≡ string_bytes l.fn.text ++ text_of (numbered_violations 1 (take l.i l.b.rows.items))
