use Rattle.std.proofs.Common.{string_bytes, codes}
use Rattle.qp_model.specs.machine.Controller.{numbers}
use Rattle.c_program.specs.Of.{is_row_needed, is_needed}
use Rattle.c_writer.specs.Measured.{kinds_in, row_lines_in}
use Rattle.c_writer.proofs.Texts.{needed_none, needed_more}
use Rattle.c_writer.proofs.InParts.{row_lines_part}
use Rattle.c_writer.proofs.rows.push_rows.Goals as goal

pub loop-i-init : goal.loop-i-init
loop-i-init c =
    let n = numbers c.args.from.now.c.now in
    needed_none (kinds_in c.args.from.now) (codes "        ") (is_needed n) (row_lines_in c.args.from.now) (string_bytes c.args.text.now)

pub loop-i-preserved : goal.loop-i-preserved
loop-i-preserved c =
    let n = numbers c.args.from.now.c.now in
    let i = c.loop-i.i in
    needed_more (kinds_in c.args.from.now) (codes "        ") (is_needed n) (row_lines_in c.args.from.now) (is_row_needed n i) i (string_bytes c.args.text.now) (string_bytes c.loop-i.text) (string_bytes c.push_needed_row.new.text)
    (row_lines_part c.args.from.now.parted c.args.from.now.machine n i) c.loop-i.invariant c.in_ok-push_needed_row.ensures
