use Rattle.std.proofs.Common.{FitsSigned, rules, arith, ◌∙◌}
use Rattle.std.specs.Int.{w128}
use Rattle.std.proofs.lemmas.Int.{ints, to_z-of_z}
use Rattle.controller_maker.proofs.Clamps.{doubled_fits, clamp_is, clamp_fits}
use Rattle.controller_maker.proofs.assemble.clamp_of.Goals as goal

pub overflow_mul-r : goal.overflow_mul-r
overflow_mul-r c = rw (to_z-of_z w128 _ c.ranges.r) (doubled_fits c.args.r c.requires.low c.requires.high)

pub shift_left-requires : goal.shift_left-requires
shift_left-requires c = omega (arith, c.requires.bits)

pub returns-in-Some : goal.returns-in-Some
returns-in-Some c =
    let f : FitsSigned w128 c.in-Some.clamp = search rules in
    let is = clamp_is c.args.r c.in-Some.clamp c.args.k c.ranges.r c.requires.low c.requires.high c.in-Some.ensures.1 in
    let within = rw (to_z-of_z w128 _ f, is) at c.if-clamp.true in
    (omega (arith, ints, within), to_z-of_z w128 _ f ∙ is)

pub returns-in_default : goal.returns-in_default
returns-in_default c =
    let f : FitsSigned w128 c.in-Some.clamp = search rules in
    let is = clamp_is c.args.r c.in-Some.clamp c.args.k c.ranges.r c.requires.low c.requires.high c.in-Some.ensures.1 in
    let above = rw (to_z-of_z w128 _ f, is) at c.if-clamp.false in
    λ room. omega (arith, ints, above, room)

pub returns-in_default-2 : goal.returns-in_default-2
returns-in_default-2 c = λ room. c.in_default.ensures (clamp_fits c.args.r c.args.k c.ranges.r c.requires.low c.requires.high room)
