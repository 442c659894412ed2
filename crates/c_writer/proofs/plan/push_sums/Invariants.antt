use Rattle.std.proofs.Common.{◌≡◌, ◌++◌, codes, string_bytes}
use Rattle.c_language.specs.Syntax.{groups}
use Rattle.c_program.specs.ByMachine.{sum_for}
use Rattle.c_writer.specs.Terms.{block_text}
use Rattle.c_writer.specs.Measured.{kinds_in}
use Rattle.c_writer.proofs.plan.push_sums.Given as goal

abbrev pub invariant-loop-j : goal.invariant-loop-j
invariant-loop-j l = string_bytes l.text ≡ string_bytes l.fn.text ++ block_text (kinds_in l.from) (codes "        ") (groups (sum_for l.from.machine) l.j)
