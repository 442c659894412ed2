use Rattle.command_line.proofs.Following.{follows, stopped, went_on, acted}
use Rattle.command_list.specs.Listed.{list_work}
use Rattle.command_list.proofs.Written.{list_sound}
use Rattle.command_list.proofs.command.list.Goals as goal

-- the controller's file ends it
pub returns-in-Err : goal.returns-in-Err
returns-in-Err g c =
    let did = c.read_controller_file.ensures in
    follows list_work list_sound (stopped did.passes (rw c.at.ensures at c.in-Err.ensures.ends))

-- it holds a controller
pub returns-in-Ok : goal.returns-in-Ok
returns-in-Ok g c =
    let kept = c.in-Ok.ensures in
    follows list_work list_sound (went_on kept.passes (rw c.at.ensures at kept.right) (acted c.list_with.ensures))
