-- The row of `demo`, which rests on no file.
use Rattle.std.proofs.Common.{ℕ}
use Rattle.qp_model.specs.problem.Parts.{design_of}
use Rattle.command_line.specs.Script.{ends}
use Rattle.command_line.proofs.Gathering.{IsSound}
use Rattle.command_generate.specs.Engine.Refusals.{HasCause, PassesAll}
use Rattle.command_generate.proofs.Engine.CauseLaws.{memory_apart}
use Rattle.command_generate.specs.Engine.Targets.{targets_of}
use Rattle.command_generate.proofs.Making.{making_telling}
use Rattle.command_demo.specs.Demo.{demo_act}

pub demo_sound : (number : ℕ) → IsSound 0 (ends (demo_act number))
demo_sound number s calls =
    making_telling (HasCause (design_of calls.0) (targets_of calls.0) calls.1) (PassesAll (design_of calls.0) (targets_of calls.0) calls.1) (memory_apart (design_of calls.0) (targets_of calls.0) calls.1) s calls.3
