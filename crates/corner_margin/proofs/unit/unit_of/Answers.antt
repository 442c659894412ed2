use Rattle.std.proofs.Common.{ℕ, ◌*◌, ◌^◌, ◌≤◌, ◌<◌, false, arith, rules, refl, sym}
use Rattle.std.specs.Int.{w128}
use mir.Val.{SFits}
use Rattle.std.proofs.lemmas.Int.{to_z-of_z}
use Rattle.qp_model.specs.problem.Parts.{design_of}
use Rattle.qp_model.specs.problem.Policy.{plans_of}
use Rattle.qp_model.proofs.CornerFacts.{over_is}
use Rattle.corner_margin.specs.Corners.{HasCornerRoomIn}
use Rattle.corner_margin.proofs.ClassFacts.{power_room, unit_fits, unit_part}
use Rattle.corner_margin.proofs.ReachFacts.{shifted}
use Rattle.corner_margin.proofs.RunFacts.{index_is}
use Rattle.corner_margin.proofs.unit.unit_of.Goals as goal

small : {n : ℕ} → n ≤ 2 ^ 63 → n < 2 ^ 128
small h = omega (arith, h)

pub overflow_mul-result : goal.overflow_mul-result
overflow_mul-result c =
    let room : HasCornerRoomIn false (design_of c.args.parts.now) (plans_of c.args.policy.now) = rw c.if-fine.false at c.requires.room in
    let f : SFits w128 c.index.result.now = search rules in
    let over = over_is c.args.policy.now.dens.items c.args.c (2 ^ c.args.parts.now.states) c.index.result.now c.unsigned_abs.result c.index.ensures c.requires.corner (sym c.requires.plans.count)
    (rw (to_z-of_z w128 _ f) at c.unsigned_abs.ensures.value) in
    record { fits = small (unit_part c.args.parts.now (plans_of c.args.policy.now) c.requires.design c.requires.plans c.args.c c.requires.corner room _ _ over (shifted c.args.parts.now.grid c.requires.design.grid)) }

pub power_of-requires-clause-fits : goal.power_of-requires-clause-fits
power_of-requires-clause-fits c =
    let room : HasCornerRoomIn false (design_of c.args.parts.now) (plans_of c.args.policy.now) = rw c.if-fine.false at c.requires.room in
    power_room c.args.parts.now (plans_of c.args.policy.now) c.requires.design c.requires.plans c.args.c c.requires.corner room

pub overflow_mul-result-else-fine : goal.overflow_mul-result-else-fine
overflow_mul-result-else-fine c =
    let room : HasCornerRoomIn false (design_of c.args.parts.now) (plans_of c.args.policy.now) = rw c.if-fine.false at c.requires.room in
    let f : SFits w128 c.index.result.now = search rules in
    let over = over_is c.args.policy.now.dens.items c.args.c (2 ^ c.args.parts.now.states) c.index.result.now c.unsigned_abs.result c.index.ensures c.requires.corner (sym c.requires.plans.count)
    (rw (to_z-of_z w128 _ f) at c.unsigned_abs.ensures.value) in
    record { fits = small (unit_fits c.args.parts.now (plans_of c.args.policy.now) c.requires.design c.requires.plans c.args.c c.requires.corner room _ _ _ over (shifted c.args.parts.now.grid c.requires.design.grid) c.power_of.ensures) }

pub power_of-requires-clause-design : goal.power_of-requires-clause-design
power_of-requires-clause-design c = c.requires.design

pub returns-then-fine : goal.returns-then-fine
returns-then-fine c = rw c.if-fine.true refl

pub overflow_shl-result-else-fine : goal.overflow_shl-result-else-fine
overflow_shl-result-else-fine c = omega (arith, c.requires.design.grid)

pub returns-else-fine : goal.returns-else-fine
returns-else-fine c =
    let f : SFits w128 c.index.result.now = search rules in
    let over = over_is c.args.policy.now.dens.items c.args.c (2 ^ c.args.parts.now.states) c.index.result.now c.unsigned_abs.result c.index.ensures c.requires.corner (sym c.requires.plans.count)
    (rw (to_z-of_z w128 _ f) at c.unsigned_abs.ensures.value) in
    rw (c.if-fine.false, index_is c.args.c) (λ i. over i * shifted c.args.parts.now.grid c.requires.design.grid i * c.power_of.ensures i)
