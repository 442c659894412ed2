use Rattle.std.proofs.Common.{◌≡◌, ◌++◌, codes, string_bytes}
use Rattle.qp_model.specs.machine.Controller.{numbers}
use Rattle.c_language.specs.Syntax.{groups}
use Rattle.c_language.specs.Needed.{left_in}
use Rattle.c_program.specs.Of.{is_needed}
use Rattle.c_writer.specs.Terms.{block_text, row_base_in}
use Rattle.c_writer.specs.Measured.{kinds_in}
use Rattle.c_writer.proofs.start.push_row_bases.Given as goal

abbrev pub invariant-loop-i : goal.invariant-loop-i
invariant-loop-i l =
    string_bytes l.text ≡ string_bytes l.fn.text ++ block_text (kinds_in l.from) (codes "    ") (left_in (is_needed (numbers l.from.c.now)) (groups (row_base_in l.from.parted (numbers l.from.c.now)) l.i))
