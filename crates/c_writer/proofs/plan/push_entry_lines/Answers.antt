use Rattle.std.proofs.Common.{◌∷◌, [], codes, string_bytes}
use Rattle.qp_model.specs.machine.Controller.{numbers}
use Rattle.c_language.specs.Syntax.{variable}
use Rattle.c_language.specs.Syntax.Family.{Entry}
use Rattle.c_language.specs.Syntax.Statement.{Declare}
use Rattle.c_language.specs.Needed.{left_in}
use Rattle.c_program.specs.Of.{is_needed}
use Rattle.c_writer.specs.Terms.{entry_in, entry_parts_in}
use Rattle.c_writer.specs.Measured.{kinds_in}
use Rattle.c_writer.proofs.Texts.{blocks_more}
use Rattle.c_writer.proofs.plan.push_entry_lines.Goals as goal

pub returns : goal.returns
returns c =
    let m = c.args.from.now in
    let n = numbers m.c.now in
    let j = c.args.j in
    blocks_more (kinds_in m) (codes "        ") (Declare (variable Entry j) (entry_in m.parted n j) ∷ []) (left_in (is_needed n) (entry_parts_in m.parted j)) (string_bytes c.args.text.now)
    (string_bytes c.push_entry.new.text) (string_bytes c.push_entry_parts_where.new.text) c.in_ok-push_entry.ensures c.in_ok-push_entry_parts_where.ensures
