use Rattle.std.proofs.Common.{codes, string_bytes}
use Rattle.qp_model.specs.machine.Controller.{numbers}
use Rattle.c_program.specs.Of.{is_needed}
use Rattle.c_program.specs.ByMachine.{start_for}
use Rattle.c_writer.specs.Measured.{kinds_in, both_before_in}
use Rattle.c_writer.proofs.Texts.{needed_blocks}
use Rattle.c_writer.proofs.writer.push_before.Goals as goal

pub returns : goal.returns
returns c =
    let m = c.args.from.now in
    let n = numbers m.c.now in
    needed_blocks (kinds_in m) (codes "    ") (is_needed n) (both_before_in m) (start_for m.machine n) (string_bytes c.args.text.now) (string_bytes c.push_both_before.new.text)
    (string_bytes c.push_held_where.new.text) c.in_ok-push_both_before.ensures c.in_ok-push_held_where.ensures
