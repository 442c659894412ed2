use Rattle.command_line.proofs.Following.{follows}
use Rattle.command_loop.proofs.TwoFiles.{plant_ended, plant_went}
use Rattle.command_settle.specs.Settle.{settle_certificate, settle_work}
use Rattle.command_settle.proofs.Answering.{settle_sound}
use Rattle.command_settle.proofs.command.settle.Goals as goal

pub returns-in-Err : goal.returns-in-Err
returns-in-Err g c = follows (settle_work c.args.disturbed) (settle_sound c.args.disturbed) (plant_ended (settle_certificate c.args.disturbed) c.in-Err.ensures)

pub returns-in-Ok : goal.returns-in-Ok
returns-in-Ok g c = follows (settle_work c.args.disturbed) (settle_sound c.args.disturbed) (plant_went (settle_certificate c.args.disturbed) c.in-Ok.ensures c.run_controller.ensures)
