use Rattle.std.proofs.Common.{subst}
use Rattle.qp_model.specs.machine.Controller.{Numbers}
use Rattle.closed_loop.specs.Looping.{IsLooping, looping_of_fast}
use Rattle.closed_loop.proofs.Sound.{fast_sound}
use Rattle.closed_loop.proofs.machine.FastKernelControlMachine.parts.Goals as goal

pub returns-clause-sound : goal.returns-clause-sound
returns-clause-sound c = subst (λ (n : Numbers). IsLooping (looping_of_fast n)) c.parts.ensures.value (fast_sound _ c.parts.ensures.sound)

pub returns-clause-inside : goal.returns-clause-inside
returns-clause-inside c = λ xi h. h.0
