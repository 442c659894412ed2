use Rattle.std.proofs.Common.{◌≡◌, FitsSigned, length, rules, arith, refl, ◌∙◌}
use Rattle.std.specs.Int.{w128}
use Rattle.std.proofs.lemmas.Int.{to_z-of_z}
use Rattle.condensed_form.specs.Form.{held}
use Rattle.controller_maker.proofs.Bounds.{column_room, column_small, sum_is, bound_fits, bound_is}
use Rattle.controller_maker.proofs.widest.entry_bound_of.Goals as goal

pub unreachable-requires : goal.unreachable-requires
unreachable-requires c =
    let wide = rw c.requires.len at (c.if-not-put_column.ensures.wide refl) in
    omega (arith, wide, column_small (held c.args.c.now) c.args.f c.args.i c.requires.column c.requires.room)

pub unreachable-requires-in_default : goal.unreachable-requires-in_default
unreachable-requires-in_default c =
    let long : length c.put_column.new.out ≡ (held c.args.c.now).entries = c.put_column.auto.out ∙ c.requires.len in
    let sum = sum_is (held c.args.c.now) c.args.i c.put_column.new.out long (λ j l. c.if-not-put_column.ensures.done refl j (omega (arith, c.put_column.auto.out))) in
    c.in_default.ensures (rw sum (omega (arith, column_small (held c.args.c.now) c.args.f c.args.i c.requires.column c.requires.room)))

pub scaled-requires-clause-fits : goal.scaled-requires-clause-fits
scaled-requires-clause-fits c =
    let f : FitsSigned w128 c.in-Some.size = search rules in
    let long : length c.put_column.new.out ≡ (held c.args.c.now).entries = c.put_column.auto.out ∙ c.requires.len in
    let sum = sum_is (held c.args.c.now) c.args.i c.put_column.new.out long (λ j l. c.if-not-put_column.ensures.done refl j (omega (arith, c.put_column.auto.out))) in
    rw (to_z-of_z w128 _ f) (bound_fits _ c.args.f c.in-Some.size (rw sum at c.in-Some.ensures.1) (column_room (held c.args.c.now) c.args.f c.args.i c.requires.column c.requires.room))

pub returns : goal.returns
returns c =
    let f : FitsSigned w128 c.in-Some.size = search rules in
    let s : FitsSigned w128 c.scaled.result = search rules in
    let r : FitsSigned w128 c.ceil_div.result = search rules in
    let low : FitsSigned w128 c.args.c.now.floor = search rules in
    let long : length c.put_column.new.out ≡ (held c.args.c.now).entries = c.put_column.auto.out ∙ c.requires.len in
    let sum = sum_is (held c.args.c.now) c.args.i c.put_column.new.out long (λ j l. c.if-not-put_column.ensures.done refl j (omega (arith, c.put_column.auto.out))) in
    rw (to_z-of_z w128 _ r, c.ceil_div.ensures, to_z-of_z w128 _ s, c.scaled.ensures, to_z-of_z w128 _ f, to_z-of_z w128 _ low)
    (bound_is _ c.args.f c.in-Some.size c.args.c.now.floor (rw sum at c.in-Some.ensures.1) c.requires.solvable.convex.positive)
