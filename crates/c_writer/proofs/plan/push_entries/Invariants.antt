use Rattle.std.proofs.Common.{◌≡◌, ◌++◌, codes, string_bytes}
use Rattle.qp_model.specs.machine.Controller.{numbers}
use Rattle.c_language.specs.Syntax.{groups}
use Rattle.c_language.specs.Needed.{left_in}
use Rattle.c_program.specs.Of.{is_needed}
use Rattle.c_writer.specs.Terms.{block_text, entry_lines_in}
use Rattle.c_writer.specs.Measured.{kinds_in}
use Rattle.c_writer.proofs.plan.push_entries.Given as goal

abbrev pub invariant-loop-j : goal.invariant-loop-j
invariant-loop-j l =
    string_bytes l.text ≡ string_bytes l.fn.text ++ block_text (kinds_in l.from) (codes "        ") (left_in (is_needed (numbers l.from.c.now)) (groups (entry_lines_in l.from.parted (numbers l.from.c.now)) l.j))
