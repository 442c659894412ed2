use Rattle.std.proofs.Common.{refl, string_bytes, codes}
use Rattle.qp_model.specs.machine.Controller.{numbers}
use Rattle.c_program.specs.Of.{loaded_statements, is_coordinate_needed, is_needed}
use Rattle.c_writer.specs.Measured.{kinds_in}
use Rattle.c_writer.proofs.Texts.{needed_none, needed_more}
use Rattle.c_writer.proofs.start.push_loads.Goals as goal

pub loop-k-init : goal.loop-k-init
loop-k-init c =
    let n = numbers c.args.from.now.c.now in
    needed_none (kinds_in c.args.from.now) (codes "    ") (is_needed n) (loaded_statements n) (string_bytes c.args.text.now)

pub loop-k-preserved : goal.loop-k-preserved
loop-k-preserved c =
    let n = numbers c.args.from.now.c.now in
    let k = c.loop-k.k in
    needed_more (kinds_in c.args.from.now) (codes "    ") (is_needed n) (loaded_statements n) (is_coordinate_needed n k) k (string_bytes c.args.text.now) (string_bytes c.loop-k.text) (string_bytes c.push_needed_loaded.new.text)
    refl c.loop-k.invariant c.in_ok-push_needed_loaded.ensures
