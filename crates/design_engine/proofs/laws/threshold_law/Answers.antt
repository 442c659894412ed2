use Rattle.step_error.proofs.MachineRuns.{machine_run}
use Rattle.design_engine.proofs.PromiseLaws.{cover_from, repairs_law, threshold_certified_from, made_above_from}
use Rattle.design_engine.proofs.TargetLaws.{threshold_targets_law}
use Rattle.design_engine.proofs.laws.threshold_law.Goals as goal

pub returns : goal.returns
returns c = record {
  cover = cover_from machine_run;
  repairs = repairs_law;
  certified = threshold_certified_from machine_run;
  targets = threshold_targets_law;
  made = made_above_from machine_run;
}
