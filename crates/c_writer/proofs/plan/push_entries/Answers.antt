use Rattle.std.proofs.Common.{string_bytes, codes}
use Rattle.qp_model.specs.machine.Controller.{numbers}
use Rattle.c_program.specs.Of.{is_needed}
use Rattle.c_writer.specs.Terms.{entry_lines_in}
use Rattle.c_writer.specs.Measured.{kinds_in}
use Rattle.c_writer.proofs.Texts.{needed_none, left_more}
use Rattle.c_writer.proofs.plan.push_entries.Goals as goal

pub loop-j-init : goal.loop-j-init
loop-j-init c =
    let n = numbers c.args.from.now.c.now in
    needed_none (kinds_in c.args.from.now) (codes "        ") (is_needed n) (entry_lines_in c.args.from.now.parted n) (string_bytes c.args.text.now)

pub loop-j-preserved : goal.loop-j-preserved
loop-j-preserved c =
    let n = numbers c.args.from.now.c.now in
    left_more (kinds_in c.args.from.now) (codes "        ") (is_needed n) (entry_lines_in c.args.from.now.parted n) c.loop-j.j (string_bytes c.args.text.now) (string_bytes c.loop-j.text)
    (string_bytes c.push_entry_lines.new.text) c.loop-j.invariant c.in_ok-push_entry_lines.ensures
