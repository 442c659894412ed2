use Rattle.std.proofs.Common.{codes, string_bytes}
use Rattle.qp_model.specs.machine.Controller.{numbers}
use Rattle.c_program.specs.Of.{is_needed}
use Rattle.c_program.specs.ByMachine.{next_for}
use Rattle.c_writer.specs.Measured.{kinds_in, step_in}
use Rattle.c_writer.proofs.Texts.{needed_blocks}
use Rattle.c_writer.proofs.writer.push_body.Goals as goal

pub returns : goal.returns
returns c =
    let m = c.args.from.now in
    let n = numbers m.c.now in
    needed_blocks (kinds_in m) (codes "        ") (is_needed n) (step_in m) (next_for m.machine) (string_bytes c.args.text.now) (string_bytes c.push_step.new.text)
    (string_bytes c.push_next_where.new.text) c.in_ok-push_step.ensures c.in_ok-push_next_where.ensures
