use Rattle.std.proofs.Common.{refl, rules, FitsSigned}
use Rattle.std.specs.Int.{w128}
use Rattle.std.proofs.lemmas.Int.{to_z-of_z}
use Rattle.fixed_kernel.proofs.step.lowered.Goals as goal

pub returns : goal.returns
returns c =
    let fits : FitsSigned w128 c.short_shift.result = search rules in
    rw (to_z-of_z w128 _ fits, c.short_shift.ensures, c.lowering_at.ensures.value, to_z-of_z w128 _ c.ranges.raised) refl
