use Rattle.std.proofs.Common.{◌≡◌, ◌^◌, ◌∙◌, ℤ, pos, ◌*ℤ◌, FitsSigned, ap, rules, arith}
use Rattle.std.specs.Int.{w128}
use Rattle.std.proofs.lemmas.Int.{to_z-of_z, fits_signed_from_abs}
use Rattle.integer_algebra.specs.Sums.{at}
use Rattle.qp_model.specs.machine.Controller.{numbers}
use Rattle.c_writer.proofs.Lists.{at_any}
use Rattle.c_writer.proofs.Rooms.{offset_room}
use Rattle.c_writer.proofs.tops.offset_at.Goals as goal

pub scaled-requires-clause-fits : goal.scaled-requires-clause-fits
scaled-requires-clause-fits c =
    let v : c.index.result.now ≡ at c.args.c.now.t.items c.args.j = at_any _ c.args.j c.index.result.now c.requires.in_range c.index.ensures in
    let x : FitsSigned w128 c.index.result.now = search rules in
    rw (to_z-of_z w128 _ x, v) (fits_signed_from_abs w128 _ (omega (arith, (offset_room (numbers c.args.c.now) c.args.j c.requires.sound c.requires.in_range).0)))

pub scaled-requires-2-clause-fits : goal.scaled-requires-2-clause-fits
scaled-requires-2-clause-fits c =
    let v : c.index.result.now ≡ at c.args.c.now.t.items c.args.j = at_any _ c.args.j c.index.result.now c.requires.in_range c.index.ensures in
    let x : FitsSigned w128 c.index.result.now = search rules in
    let y : FitsSigned w128 c.scaled.result = search rules in
    let e = c.scaled.ensures ∙ ap (λ (z : ℤ). z *ℤ pos (2 ^ c.args.c.now.f)) (to_z-of_z w128 _ x ∙ v) in
    rw (to_z-of_z w128 _ y, e) (fits_signed_from_abs w128 _ (omega (arith, (offset_room (numbers c.args.c.now) c.args.j c.requires.sound c.requires.in_range).1)))

pub returns-clause-small : goal.returns-clause-small
returns-clause-small c =
    let v : c.index.result.now ≡ at c.args.c.now.t.items c.args.j = at_any _ c.args.j c.index.result.now c.requires.in_range c.index.ensures in
    let x : FitsSigned w128 c.index.result.now = search rules in
    let y : FitsSigned w128 c.scaled.result = search rules in
    let z : FitsSigned w128 c.scaled-2.result = search rules in
    let e = c.scaled.ensures ∙ ap (λ (z : ℤ). z *ℤ pos (2 ^ c.args.c.now.f)) (to_z-of_z w128 _ x ∙ v) in
    let g = c.scaled-2.ensures ∙ ap (λ (z : ℤ). z *ℤ pos (2 ^ c.args.c.now.s)) (to_z-of_z w128 _ y ∙ e) in
    rw (to_z-of_z w128 _ z, g) (omega (arith, (offset_room (numbers c.args.c.now) c.args.j c.requires.sound c.requires.in_range).1))
