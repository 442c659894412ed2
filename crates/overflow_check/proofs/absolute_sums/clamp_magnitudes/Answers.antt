use Rattle.std.proofs.Common.{◌≡◌, ◌∙◌, arith, replicate, take, refl, FitsSigned}
use Rattle.std.specs.Int.{w128}
use Rattle.std.proofs.lemmas.Int.{ints, to_z-of_z}
use Rattle.std.proofs.lemmas.List.{take-replicate}
use Rattle.qp_model.specs.machine.Controller.{numbers}
use Rattle.qp_model.proofs.VersionLaws.{limits_le}
use Rattle.overflow_check.specs.FastController.{with_last_version}
use Rattle.overflow_check.proofs.absolute_sums.clamp_magnitudes.Goals as goal

pub returns : goal.returns
returns c =
    let n = numbers c.args.c.now in
    let front : take c.args.c.now.m (replicate 372 c.unsigned_abs.result) ≡ replicate c.args.c.now.m c.unsigned_abs.result = take-replicate c.args.c.now.m 372 c.unsigned_abs.result (limits_le (with_last_version n) c.requires) in
    let fits : FitsSigned w128 c.args.c.now.clamp = omega (arith, ints) in
    front ∙ rw (c.unsigned_abs.ensures.value, to_z-of_z w128 _ fits, c.requires.shaped.bounds) refl
