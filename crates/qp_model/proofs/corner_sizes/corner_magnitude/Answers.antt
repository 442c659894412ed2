use Rattle.std.proofs.Common.{◌≤◌, ◌^◌, pos, rules, arith, ◌∙◌, sym, refl}
use Rattle.std.specs.Int.{w128}
use mir.Val.{SFits}
use Rattle.std.proofs.lemmas.Int.{to_z-of_z}
use Rattle.integer_algebra.specs.Sums.{at}
use Rattle.qp_model.specs.problem.Parts.{design_of}
use Rattle.qp_model.specs.problem.Policy.{plans_of}
use Rattle.qp_model.proofs.CornerFacts.{grid_small, grid_is, product_small, denominator_size, over_is, entries_is}
use Rattle.qp_model.proofs.corner_sizes.corner_magnitude.Goals as goal

pub overflow_mul-entries : goal.overflow_mul-entries
overflow_mul-entries c =
    let g = c.args.parts.now.grid in
    let most = (entries_is (plans_of c.args.policy.now) (design_of c.args.parts.now) c.args.c c.row.result.now c.greatest_size.result c.requires.plans c.requires.corner c.row.ensures.value c.greatest_size.ensures).1 in
    rw (grid_is g c.requires.design.grid) (omega (arith, product_small (2 ^ g) c.greatest_size.result (2 ^ 24) (2 ^ 63) (grid_small g c.requires.design.grid) most))

pub overflow_mul-over : goal.overflow_mul-over
overflow_mul-over c =
    let g = c.args.parts.now.grid in
    let xs = c.args.policy.now.dens.items in
    let f : SFits w128 c.index.result.now = search rules in
    let over = over_is xs c.args.c (2 ^ c.args.parts.now.states) c.index.result.now c.unsigned_abs-over.result c.index.ensures c.requires.corner (sym c.requires.plans.count)
    (rw (to_z-of_z w128 _ f) at c.unsigned_abs-over.ensures.value) in
    let small = (denominator_size (at xs c.args.c) (c.requires.plans.denominators c.args.c (pos 0) (omega (arith, c.requires.corner, c.requires.plans.count)))).1 in
    rw (grid_is g c.requires.design.grid) (omega (arith, product_small c.unsigned_abs-over.result (2 ^ g) (2 ^ 40) (2 ^ 24) (omega (arith, over, small)) (grid_small g c.requires.design.grid)))

pub overflow_mul-over-2 : goal.overflow_mul-over-2
overflow_mul-over-2 c =
    let xs = c.args.policy.now.dens.items in
    let f : SFits w128 c.index.result.now = search rules in
    let over = over_is xs c.args.c (2 ^ c.args.parts.now.states) c.index.result.now c.unsigned_abs-over.result c.index.ensures c.requires.corner (sym c.requires.plans.count)
    (rw (to_z-of_z w128 _ f) at c.unsigned_abs-over.ensures.value) in
    let small = (denominator_size (at xs c.args.c) (c.requires.plans.denominators c.args.c (pos 0) (omega (arith, c.requires.corner, c.requires.plans.count)))).1 in
    let near : c.box_magnitude.result ≤ 2 ^ 31 = omega (arith, c.box_magnitude.ensures.small) in
    omega (arith, product_small c.unsigned_abs-over.result c.box_magnitude.result (2 ^ 40) (2 ^ 31) (omega (arith, over, small)) near)

pub returns : goal.returns
returns c =
    let g = c.args.parts.now.grid in
    let xs = c.args.policy.now.dens.items in
    let f : SFits w128 c.index.result.now = search rules in
    let over = over_is xs c.args.c (2 ^ c.args.parts.now.states) c.index.result.now c.unsigned_abs-over.result c.index.ensures c.requires.corner (sym c.requires.plans.count)
    (rw (to_z-of_z w128 _ f) at c.unsigned_abs-over.ensures.value) in
    let most = (entries_is (plans_of c.args.policy.now) (design_of c.args.parts.now) c.args.c c.row.result.now c.greatest_size.result c.requires.plans c.requires.corner c.row.ensures.value c.greatest_size.ensures).0 in
    c.max-2.ensures ∙ rw (c.max.ensures, grid_is g c.requires.design.grid, over, most, c.box_magnitude.ensures.value) refl
