use Rattle.std.proofs.Common.{Some, pos, rules, refl, ap, ◌∙◌}
use Rattle.std.specs.Int.{w128}
use Rattle.std.proofs.lemmas.Int.{to_z-of_z}
use mir.Val.{SFits}
use Rattle.qp_model.specs.declared.design_parts.DesignParts.{DesignParts}
use Rattle.command_generate.specs.Engine.Targets.{targets_of, violation_target}
use Rattle.command_make.proofs.excess.known_target.Goals as goal

pub violation_target-requires : goal.violation_target-requires
violation_target-requires c = c.parts.ensures.sound

pub returns-in-Some : goal.returns-in-Some
returns-in-Some c =
    let t : SFits w128 c.violation_target.result = search rules in
    rw (c.in-Some.is, to_z-of_z w128 _ t)
    (ap Some (c.violation_target.ensures ∙ ap (λ (p : DesignParts). pos (violation_target (targets_of p))) c.parts.ensures.value))

pub returns-in-None : goal.returns-in-None
returns-in-None c = rw c.in-None.is refl
