use Rattle.std.proofs.Common.{◌≡◌, ℕ, ◌^◌, ◌<◌, ◌≤◌, unsigned_abs, FitsSigned, rules, refl, arith}
use Rattle.std.specs.Int.{w128}
use Rattle.std.proofs.lemmas.Int.{to_z-of_z}
use Rattle.qp_model.specs.problem.Parts.{design_of}
use Rattle.qp_model.specs.machine.Controller.{numbers}
use Rattle.qp_model.proofs.SizeFacts.{some_row}
use Rattle.overflow_check.specs.Machines.{greatest_for}
use Rattle.controller_maker.proofs.Frames.{wide_clamp, sized, sum_le, within_from, assembled, above, below, over}
use Rattle.controller_maker.proofs.assemble.assembled.Goals as goal

-- ---- the clamp
pub returns-in_default-clause-wide : goal.returns-in_default-clause-wide
returns-in_default-clause-wide c =
    let bound : FitsSigned w128 c.args.settings.r = search rules in
    let clamp = over _ (rw (to_z-of_z w128 _ bound) at c.in_default.ensures) in
    (refl, wide_clamp c.args.machine c.args.design.now (unsigned_abs c.args.settings.r) c.args.settings.s c.args.settings.steps c.args.settings.f c.requires.form.design clamp)

pub widest_parts-requires-clause-clamp : goal.widest_parts-requires-clause-clamp
widest_parts-requires-clause-clamp c =
    let fits : FitsSigned w128 c.in-Some.clamp = search rules in
    let bound : FitsSigned w128 c.args.settings.r = search rules in
    let clamp = rw (to_z-of_z w128 _ bound) at c.in-Some.ensures in
    rw (to_z-of_z w128 _ fits) clamp.1

pub widest_parts-requires-clause-limit : goal.widest_parts-requires-clause-limit
widest_parts-requires-clause-limit c =
    let bound : FitsSigned w128 c.args.settings.r = search rules in
    (rw (to_z-of_z w128 _ bound) at c.in-Some.ensures).0

-- ---- the widest gains
pub greatest_for-requires : goal.greatest_for-requires
greatest_for-requires c = c.in-Ok.ensures.sized

pub returns-then-is_none-clause-wide : goal.returns-then-is_none-clause-wide
returns-then-is_none-clause-wide c =
    (refl, wide _ _ c.in-Ok.ensures.sum (above _ (greatest_for c.args.machine (numbers c.in-Ok.parts)) _ _ c.greatest_for.ensures c.is_none.ensures c.if-is_none.true))
  where
    wide : (n t : ℕ) → n ≡ t → 2 ^ 126 < n → 2 ^ 126 < t
    wide n t e h = omega (arith, e, h)

room : (n t : ℕ) → n ≡ t → n ≤ 2 ^ 126 → t ≤ 2 ^ 126
room n t e h = omega (arith, e, h)

pub returns-clause-fits : goal.returns-clause-fits
returns-clause-fits c =
    room _ _ c.in-Ok.ensures.sum (below _ (greatest_for c.args.machine (numbers c.in-Ok.parts)) _ _ c.greatest_for.ensures c.is_none.ensures c.if-is_none.false)

-- ---- the gains themselves
pub returns-clause-sized : goal.returns-clause-sized
returns-clause-sized c =
    let p = c.args.design.now in
    let bound : FitsSigned w128 c.args.settings.r = search rules in
    let clamp = rw (to_z-of_z w128 _ bound) at c.in-Some.ensures in
    sized c.args.machine p (unsigned_abs c.args.settings.r) c.args.settings.s c.args.exps.items c.args.settings.steps c.args.settings.f (numbers c.with_gains.result) c.args.gains c.requires.form.design
    (c.with_gains.ensures.frame c.args.machine (design_of p) (unsigned_abs c.args.settings.r) c.args.settings.s c.args.exps.items c.args.settings.steps c.args.settings.f c.in-Ok.ensures.frame)
    c.with_gains.ensures.gains (within_from (design_of p) c.args.settings.f c.args.gains c.requires.gains).sizes c.requires.bits c.requires.exponent c.requires.exponents c.requires.steps clamp.0

pub returns-clause-room : goal.returns-clause-room
returns-clause-room c =
    let p = c.args.design.now in
    let most = sum_le c.args.machine (design_of p) (unsigned_abs c.args.settings.r) c.args.settings.s c.args.exps.items c.args.settings.steps c.args.settings.f (numbers c.with_gains.result) c.args.gains (some_row p c.requires.form.design)
    (c.with_gains.ensures.frame c.args.machine (design_of p) (unsigned_abs c.args.settings.r) c.args.settings.s c.args.exps.items c.args.settings.steps c.args.settings.f c.in-Ok.ensures.frame)
    c.with_gains.ensures.gains (within_from (design_of p) c.args.settings.f c.args.gains c.requires.gains) in
    through _ _ most (room _ _ c.in-Ok.ensures.sum (below _ (greatest_for c.args.machine (numbers c.in-Ok.parts)) _ _ c.greatest_for.ensures c.is_none.ensures c.if-is_none.false))
  where
    through : (n t : ℕ) → n ≤ t → t ≤ 2 ^ 126 → n ≤ 2 ^ 126
    through n t h k = omega (arith, h, k)

pub returns-clause-made : goal.returns-clause-made
returns-clause-made c = λ w is.
    let p = c.args.design.now in
    assembled c.args.machine (design_of p) (unsigned_abs c.args.settings.r) c.args.settings.s c.args.exps.items c.args.settings.steps c.args.settings.f (numbers c.with_gains.result) c.args.gains w
    (c.with_gains.ensures.frame c.args.machine (design_of p) (unsigned_abs c.args.settings.r) c.args.settings.s c.args.exps.items c.args.settings.steps c.args.settings.f c.in-Ok.ensures.frame)
    c.with_gains.ensures.gains c.requires.gains is

pub overflow_add-settings : goal.overflow_add-settings
overflow_add-settings c = omega (arith, c.requires.bits, c.requires.exponent)

pub clamp_of-requires-clause-bits : goal.clamp_of-requires-clause-bits
clamp_of-requires-clause-bits c = omega (arith, c.requires.bits, c.requires.exponent)

pub returns-in_default-clause-made : goal.returns-in_default-clause-made
returns-in_default-clause-made c = tt

pub returns-in_default-clause-fits : goal.returns-in_default-clause-fits
returns-in_default-clause-fits c = tt

pub widest_parts-requires-clause-form : goal.widest_parts-requires-clause-form
widest_parts-requires-clause-form c = c.requires.form

pub widest_parts-requires-clause-room : goal.widest_parts-requires-clause-room
widest_parts-requires-clause-room c = c.requires.room

pub widest_parts-requires-clause-bits : goal.widest_parts-requires-clause-bits
widest_parts-requires-clause-bits c = c.requires.bits

pub widest_parts-requires-clause-exponent : goal.widest_parts-requires-clause-exponent
widest_parts-requires-clause-exponent c = c.requires.exponent

pub widest_parts-requires-clause-exponents : goal.widest_parts-requires-clause-exponents
widest_parts-requires-clause-exponents c = c.requires.exponents

pub widest_parts-requires-clause-steps : goal.widest_parts-requires-clause-steps
widest_parts-requires-clause-steps c = c.requires.steps

pub returns-in_default-widest_parts-clause-made : goal.returns-in_default-widest_parts-clause-made
returns-in_default-widest_parts-clause-made c = tt

pub returns-in_default-widest_parts-clause-fits : goal.returns-in_default-widest_parts-clause-fits
returns-in_default-widest_parts-clause-fits c = tt

pub returns-in_default-widest_parts-clause-wide : goal.returns-in_default-widest_parts-clause-wide
returns-in_default-widest_parts-clause-wide c = tt

pub returns-then-is_none-clause-made : goal.returns-then-is_none-clause-made
returns-then-is_none-clause-made c = tt

pub returns-then-is_none-clause-fits : goal.returns-then-is_none-clause-fits
returns-then-is_none-clause-fits c = tt

pub returns-clause-wide : goal.returns-clause-wide
returns-clause-wide c = tt

pub returns-in_default-clause-sized : goal.returns-in_default-clause-sized
returns-in_default-clause-sized c = tt

pub returns-in_default-clause-room : goal.returns-in_default-clause-room
returns-in_default-clause-room c = tt

pub returns-in_default-widest_parts-clause-sized : goal.returns-in_default-widest_parts-clause-sized
returns-in_default-widest_parts-clause-sized c = tt

pub returns-in_default-widest_parts-clause-room : goal.returns-in_default-widest_parts-clause-room
returns-in_default-widest_parts-clause-room c = tt

pub returns-then-is_none-clause-sized : goal.returns-then-is_none-clause-sized
returns-then-is_none-clause-sized c = tt

pub returns-then-is_none-clause-room : goal.returns-then-is_none-clause-room
returns-then-is_none-clause-room c = tt
