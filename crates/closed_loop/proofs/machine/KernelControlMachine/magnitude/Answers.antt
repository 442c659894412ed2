use Rattle.overflow_check.specs.declared.machine.Machine.TheVariants.{Plain}
use Rattle.overflow_check.proofs.Machines.{as_last}
use Rattle.closed_loop.proofs.machine.KernelControlMachine.magnitude.Goals as goal

pub plan_entry_magnitude-requires-clause-sound : goal.plan_entry_magnitude-requires-clause-sound
plan_entry_magnitude-requires-clause-sound c = as_last Plain _ c.parts.ensures.sound
