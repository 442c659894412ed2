use Rattle.std.proofs.Common.{codes, string_bytes}
use Rattle.c_language.specs.Syntax.{variable}
use Rattle.c_language.specs.Syntax.Family.{Moved}
use Rattle.c_writer.specs.Measured.{kinds_in, moved_in}
use Rattle.c_writer.proofs.Texts.{declared_line}
use Rattle.c_writer.proofs.rows.push_moved.Goals as goal

pub returns : goal.returns
returns c =
    declared_line (kinds_in c.args.from.now) (variable Moved c.args.i) (moved_in c.args.from.now c.args.i) (codes "        ") c.args.kind.now (string_bytes c.args.text.now) (string_bytes c.push_declared.new.text)
    (string_bytes c.push_moved_value.new.text) (string_bytes c.push_end.new.text) c.requires.kind c.in_ok-push_declared.ensures c.in_ok-push_moved_value.ensures c.in_ok-push_end.ensures
