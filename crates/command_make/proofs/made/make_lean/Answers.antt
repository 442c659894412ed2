use Rattle.std.proofs.Common.{refl}
use Rattle.qp_model.specs.problem.Parts.{design_of}
use Rattle.qp_model.specs.problem.Policy.{plans_of}
use Rattle.lean_engine.specs.Refusals.{HasLeanCause, PassesLean}
use Rattle.lean_engine.proofs.CauseLaws.{memory_apart}
use Rattle.command_generate.specs.Engine.Targets.{targets_of}
use Rattle.command_generate.proofs.Making.{done_called, refused_called, none_made}
use Rattle.command_make.proofs.made.make_lean.Goals as goal

pub returns-in-Ok-clause-made : goal.returns-in-Ok-clause-made
returns-in-Ok-clause-made c =
    let p = c.args.design.now in
    let plans = plans_of c.args.policy.now in
    let references = plans_of c.args.reference.now in
    let made = c.in-Ok.made in
    let is = c.in-Ok.ensures in
    let Cause = HasLeanCause (design_of p) (targets_of p) plans references in
    let All = PassesLean (design_of p) (targets_of p) plans references in
    let apart = memory_apart (design_of p) (targets_of p) plans references in
    record {
      made = record { built = is.built; certified = is.certified; targets = is.targets };
      called = done_called Cause All apart _ is.every_refusal made refl
          (record { margin = is.passes.0; exponent = is.passes.1; bits = is.passes.2; all = is.passes.3 });
      unmade = tt;
    }

pub returns-in-Err-clause-made : goal.returns-in-Err-clause-made
returns-in-Err-clause-made c =
    let p = c.args.design.now in
    let plans = plans_of c.args.policy.now in
    let references = plans_of c.args.reference.now in
    none_made (refused_called (HasLeanCause (design_of p) (targets_of p) plans references) (PassesLean (design_of p) (targets_of p) plans references) (memory_apart (design_of p) (targets_of p) plans references) _ c.in-Err.ensures.every_refusal
    c.in-Err.ensures.accepted c.in-Err.refusal c.from.result refl c.from.ensures c.in-Err.ensures.refused)
