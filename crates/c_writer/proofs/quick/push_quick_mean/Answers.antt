use Rattle.std.proofs.Common.{codes, string_bytes}
use Rattle.c_language.specs.Syntax.Family.{Multiplier}
use Rattle.c_program.specs.FastOf.{near_statements, exact_statements}
use Rattle.c_writer.specs.Measured.{kinds_in}
use Rattle.c_writer.proofs.Texts.{blocks_more}
use Rattle.c_writer.proofs.quick.push_quick_mean.Goals as goal

pub returns : goal.returns
returns c =
    blocks_more (kinds_in c.args.from.now) (codes "        ") (near_statements c.args.i) (exact_statements Multiplier c.args.i) (string_bytes c.args.text.now) (string_bytes c.push_near.new.text) (string_bytes c.push_exact.new.text)
    c.in_ok-push_near.ensures c.in_ok-push_exact.ensures
