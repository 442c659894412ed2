use Rattle.std.proofs.Common.{subst, ◌∙◌}
use Rattle.qp_model.specs.machine.Controller.{Numbers}
use Rattle.closed_loop.specs.Looping.{IsLooping, looping_of_plain}
use Rattle.closed_loop.proofs.Sound.{plain_sound}
use Rattle.closed_loop.proofs.machine.KernelControlMachine.parts.Goals as goal

pub returns-clause-sound : goal.returns-clause-sound
returns-clause-sound c = subst (λ (n : Numbers). IsLooping (looping_of_plain n)) (c.parts.ensures.value ∙ c.controller.ensures.value) (plain_sound _ c.parts.ensures.sound)

pub returns-clause-inside : goal.returns-clause-inside
returns-clause-inside c = λ xi h. h.0
