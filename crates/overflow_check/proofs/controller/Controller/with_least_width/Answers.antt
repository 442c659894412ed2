use Rattle.std.proofs.Common.{FitsSigned, rules, refl}
use Rattle.std.specs.Int.{w128}
use Rattle.std.proofs.lemmas.Int.{to_z-of_z}
use Rattle.overflow_check.specs.declared.machine.Machine.TheVariants.{Plain}
use Rattle.overflow_check.proofs.Machines.{controller_from}
use Rattle.overflow_check.proofs.controller.Controller.with_least_width.Goals as goal

pub invariant_of-result : goal.invariant_of-result
invariant_of-result c =
    let f : FitsSigned w128 c.args.parts.clamp = search rules in
    rw (to_z-of_z w128 _ f) (controller_from Plain _ c.in-Some.w c.requires (c.in-Some.ensures.found.0 refl) c.in-Some.ensures.least)
