use Rattle.std.proofs.Common.{◌≡◌, ◌^◌, ◌∙◌, ℤ, pos, ◌-ℤ◌, ◌*ℤ◌, neg_ℤ, ◌≤◌, unsigned_abs, to_z, of_z, FitsSigned, ap, rules, arith}
use Rattle.std.specs.Int.{w128}
use Rattle.std.proofs.lemmas.Int.{ints, to_z-of_z, fits_signed_from_abs}
use Rattle.integer_algebra.specs.Sums.{at}
use Rattle.qp_model.specs.machine.Controller.{numbers}
use Rattle.c_writer.proofs.Lists.{at_any}
use Rattle.c_writer.proofs.Rooms.{bound_room}
use Rattle.c_writer.proofs.tops.bound_at.Goals as goal

pub scaled-requires-clause-fits : goal.scaled-requires-clause-fits
scaled-requires-clause-fits c =
    let v : c.index.result.now ≡ at c.args.c.now.bound.items c.args.i = at_any _ c.args.i c.index.result.now c.requires.in_range c.index.ensures in
    let x : FitsSigned w128 c.index.result.now = search rules in
    rw (to_z-of_z w128 _ x, v) (fits_signed_from_abs w128 _ (omega (arith, bound_room (numbers c.args.c.now) c.args.i c.requires.sound c.requires.in_range)))

less : (z : ℤ) → unsigned_abs z ≤ 2 ^ 126 → FitsSigned w128 (pos 0 -ℤ z)
less z h = fits_signed_from_abs w128 _ (omega (arith, ints, h))

made : (z : ℤ) → unsigned_abs z ≤ 2 ^ 126 → to_z w128 (of_z w128 (pos 0 -ℤ z)) ≡ neg_ℤ z
made z h = to_z-of_z w128 _ (less z h) ∙ omega (arith, ints)

pub overflow_sub-result : goal.overflow_sub-result
overflow_sub-result c =
    let v : c.index.result.now ≡ at c.args.c.now.bound.items c.args.i = at_any _ c.args.i c.index.result.now c.requires.in_range c.index.ensures in
    let x : FitsSigned w128 c.index.result.now = search rules in
    let y : FitsSigned w128 c.scaled.result = search rules in
    let e = to_z-of_z w128 _ y ∙ c.scaled.ensures ∙ ap (λ (z : ℤ). z *ℤ pos (2 ^ c.args.c.now.f)) (to_z-of_z w128 _ x ∙ v) in
    rw e (less (at c.args.c.now.bound.items c.args.i *ℤ pos (2 ^ c.args.c.now.f)) (bound_room (numbers c.args.c.now) c.args.i c.requires.sound c.requires.in_range))

pub returns-clause-value : goal.returns-clause-value
returns-clause-value c =
    let v : c.index.result.now ≡ at c.args.c.now.bound.items c.args.i = at_any _ c.args.i c.index.result.now c.requires.in_range c.index.ensures in
    let x : FitsSigned w128 c.index.result.now = search rules in
    let y : FitsSigned w128 c.scaled.result = search rules in
    let e = to_z-of_z w128 _ y ∙ c.scaled.ensures ∙ ap (λ (z : ℤ). z *ℤ pos (2 ^ c.args.c.now.f)) (to_z-of_z w128 _ x ∙ v) in
    rw e (made (at c.args.c.now.bound.items c.args.i *ℤ pos (2 ^ c.args.c.now.f)) (bound_room (numbers c.args.c.now) c.args.i c.requires.sound c.requires.in_range))

pub returns-clause-small : goal.returns-clause-small
returns-clause-small c =
    let v : c.index.result.now ≡ at c.args.c.now.bound.items c.args.i = at_any _ c.args.i c.index.result.now c.requires.in_range c.index.ensures in
    let x : FitsSigned w128 c.index.result.now = search rules in
    let y : FitsSigned w128 c.scaled.result = search rules in
    let e = to_z-of_z w128 _ y ∙ c.scaled.ensures ∙ ap (λ (z : ℤ). z *ℤ pos (2 ^ c.args.c.now.f)) (to_z-of_z w128 _ x ∙ v) in
    let b = bound_room (numbers c.args.c.now) c.args.i c.requires.sound c.requires.in_range in
    rw (e, made (at c.args.c.now.bound.items c.args.i *ℤ pos (2 ^ c.args.c.now.f)) b) (omega (arith, ints, b))
