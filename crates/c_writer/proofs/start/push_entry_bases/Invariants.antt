use Rattle.std.proofs.Common.{◌≡◌, ◌++◌, codes, string_bytes}
use Rattle.qp_model.specs.machine.Controller.{numbers}
use Rattle.c_language.specs.Syntax.{groups}
use Rattle.c_writer.specs.Terms.{block_text, entry_base_in}
use Rattle.c_writer.specs.Measured.{kinds_in}
use Rattle.c_writer.proofs.start.push_entry_bases.Given as goal

abbrev pub invariant-loop-j : goal.invariant-loop-j
invariant-loop-j l = string_bytes l.text ≡ string_bytes l.fn.text ++ block_text (kinds_in l.from) (codes "    ") (groups (entry_base_in l.from.parted (numbers l.from.c.now)) l.j)
