use Rattle.std.proofs.Common.{◌++◌, ◌∷◌, [], codes, string_bytes}
use Rattle.qp_model.specs.machine.Controller.{numbers}
use Rattle.c_language.specs.Syntax.{variable}
use Rattle.c_language.specs.Syntax.Family.{RowSum}
use Rattle.c_language.specs.Syntax.Statement.{Declare}
use Rattle.c_writer.specs.Terms.{gradients_in, row_in}
use Rattle.c_writer.specs.Measured.{kinds_in, move_in}
use Rattle.c_writer.proofs.Texts.{blocks_more}
use Rattle.c_writer.proofs.rows.push_row_lines.Goals as goal

pub returns : goal.returns
returns c =
    let m = c.args.from.now in
    let n = numbers m.c.now in
    let i = c.args.i in
    let old = string_bytes c.args.text.now in
    let gradient = gradients_in m.parted n i in
    let sum = Declare (variable RowSum i) (row_in m.parted n i) ∷ [] in
    let t1 = string_bytes c.push_gradients_where.new.text in
    let t2 = string_bytes c.push_row_sum.new.text in
    blocks_more (kinds_in m) (codes "        ") (gradient ++ sum) (move_in m i) old t2 (string_bytes c.push_move.new.text)
    (blocks_more (kinds_in m) (codes "        ") gradient sum old t1 t2 c.in_ok-push_gradients_where.ensures c.in_ok-push_row_sum.ensures) c.in_ok-push_move.ensures
