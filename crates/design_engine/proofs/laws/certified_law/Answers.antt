use Rattle.step_error.proofs.MachineRuns.{machine_run}
use Rattle.design_engine.proofs.PromiseLaws.{certified_from}
use Rattle.design_engine.proofs.laws.certified_law.Goals as goal

pub returns : goal.returns
returns c = certified_from machine_run
