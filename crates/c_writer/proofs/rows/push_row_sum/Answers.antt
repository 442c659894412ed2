use Rattle.std.proofs.Common.{codes, string_bytes}
use Rattle.qp_model.specs.machine.Controller.{numbers}
use Rattle.c_language.specs.Syntax.{variable}
use Rattle.c_language.specs.Syntax.Family.{RowSum}
use Rattle.c_writer.specs.Terms.{row_in}
use Rattle.c_writer.specs.Measured.{kinds_in}
use Rattle.c_writer.proofs.Texts.{declared_line}
use Rattle.c_writer.proofs.rows.push_row_sum.Goals as goal

pub returns : goal.returns
returns c =
    let n = numbers c.args.from.now.c.now in
    declared_line (kinds_in c.args.from.now) (variable RowSum c.args.i) (row_in c.args.from.now.parted n c.args.i) (codes "        ") c.row_kind.result.now (string_bytes c.args.text.now) (string_bytes c.push_declared.new.text)
    (string_bytes c.push_row_value.new.text) (string_bytes c.push_end.new.text) c.row_kind.ensures c.in_ok-push_declared.ensures c.in_ok-push_row_value.ensures c.in_ok-push_end.ensures
