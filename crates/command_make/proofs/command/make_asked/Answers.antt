use Rattle.command_line.proofs.Following.{went_on, stopped, follows}
use Rattle.command_make.specs.Make.{make_work}
use Rattle.command_make.proofs.Written.{make_sound}
use Rattle.command_make.proofs.command.make_asked.Goals as goal

pub returns-in-Err : goal.returns-in-Err
returns-in-Err g c =
    let a = c.args.asked.now in
    let did = rw c.at.ensures at c.in-Err.ensures in
    follows (make_work a) (make_sound a c.requires.faces_order c.requires.range_order) (stopped did.passes did.ends)

pub returns-in-Ok : goal.returns-in-Ok
returns-in-Ok g c =
    let a = c.args.asked.now in
    let did = rw c.at.ensures at c.in-Ok.ensures in
    follows (make_work a) (make_sound a c.requires.faces_order c.requires.range_order) (went_on did.passes did.right c.make_of.ensures)
