use Rattle.std.proofs.Common.{◌+ℤ◌, pos, arith, rules, FitsSigned}
use Rattle.std.specs.Int.{w128}
use Rattle.std.proofs.lemmas.Int.{ints, to_z-of_z}
use Rattle.frac_scaled.proofs.Rounding.{rounded_down, rounded_up}
use Rattle.frac_scaled.proofs.round_div.Goals as goal

pub returns-then-rest-b : goal.returns-then-rest-b
returns-then-rest-b c =
    let q : FitsSigned w128 c.floor_div-quotient.result = search rules in
    let r : FitsSigned w128 c.rem_euclid-rest.result = search rules in
    let quotient = rw (to_z-of_z w128 c.args.a c.ranges.a, to_z-of_z w128 c.args.b c.ranges.b) at c.floor_div-quotient.ensures in
    let rest = rw (to_z-of_z w128 c.args.a c.ranges.a, to_z-of_z w128 c.args.b c.ranges.b) at c.rem_euclid-rest.ensures.value in
    rw (to_z-of_z w128 _ q) (rounded_down c.args.a c.args.b _ _ c.requires quotient rest (omega (arith, ints)) (omega (arith, ints)))

pub returns-else-rest-b : goal.returns-else-rest-b
returns-else-rest-b c =
    let q : FitsSigned w128 c.floor_div-quotient.result = search rules in
    let r : FitsSigned w128 c.rem_euclid-rest.result = search rules in
    let quotient = rw (to_z-of_z w128 c.args.a c.ranges.a, to_z-of_z w128 c.args.b c.ranges.b) at c.floor_div-quotient.ensures in
    let rest = rw (to_z-of_z w128 c.args.a c.ranges.a, to_z-of_z w128 c.args.b c.ranges.b) at c.rem_euclid-rest.ensures.value in
    let more : FitsSigned w128 (c.floor_div-quotient.result +ℤ pos 1) = search rules in
    rw (to_z-of_z w128 _ q, to_z-of_z w128 _ more) (rounded_up c.args.a c.args.b _ _ c.requires quotient rest (omega (arith, ints)) (omega (arith, ints)))
