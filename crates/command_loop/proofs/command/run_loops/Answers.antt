use Rattle.command_line.proofs.Following.{follows}
use Rattle.command_loop.specs.Loop.{loop_states, loop_work}
use Rattle.command_loop.proofs.Answering.{loop_sound}
use Rattle.command_loop.proofs.TwoFiles.{plant_ended, plant_went}
use Rattle.command_loop.proofs.command.run_loops.Goals as goal

pub returns-in-Err : goal.returns-in-Err
returns-in-Err g c = follows (loop_work c.args.turns c.args.disturbed) (loop_sound c.args.turns c.args.disturbed) (plant_ended (loop_states c.args.turns c.args.disturbed) c.in-Err.ensures)

pub returns-in-Ok : goal.returns-in-Ok
returns-in-Ok g c = follows (loop_work c.args.turns c.args.disturbed) (loop_sound c.args.turns c.args.disturbed) (plant_went (loop_states c.args.turns c.args.disturbed) c.in-Ok.ensures c.run_controller.ensures)
