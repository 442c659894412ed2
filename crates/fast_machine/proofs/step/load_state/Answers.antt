use Rattle.std.proofs.Common.{◌≡◌, ◌-◌, ◌^◌, ◌*ℤ◌, length, get_or, pos, arith, rules, FitsSigned, ap, sym, ◌∙◌, ℤ}
use Rattle.std.specs.Int.{w128}
use Rattle.std.proofs.lemmas.Int.{to_z-of_z}
use Rattle.std.proofs.lemmas.List.{ext_get_or, length-map, get_or-map}
use Rattle.std.proofs.lemmas.List.Edits.{fill_by_more}
use Rattle.qp_model.specs.machine.Controller.{numbers}
use Rattle.qp_model.specs.machine.Machine.{loaded}
use Rattle.fast_machine.proofs.FastRooms.{coordinate_fits}
use Rattle.fast_machine.proofs.step.load_state.Goals as goal

pub scaled-requires-clause-fits : goal.scaled-requires-clause-fits
scaled-requires-clause-fits c =
    let x : FitsSigned w128 (get_or c.args.state.now c.loop-i.i (pos 0)) = search rules in
    rw (to_z-of_z w128 _ x) (coordinate_fits (numbers c.args.c.now) c.args.state.now c.loop-i.i c.requires.sound c.requires.inside (omega (arith, c.requires.inside.long)))

pub loop-i-preserved : goal.loop-i-preserved
loop-i-preserved c =
    let i = c.loop-i.i in
    let xs = c.args.state.now in
    let x : FitsSigned w128 (get_or xs i (pos 0)) = search rules in
    let made : FitsSigned w128 c.scaled.result = record { sfits = c.scaled.type_inv } in
    let power = pos (2 ^ (c.args.c.now.f - c.args.c.now.g)) in
    let is = to_z-of_z w128 _ made ∙ c.scaled.ensures ∙ ap (λ (z : ℤ). z *ℤ power) (to_z-of_z w128 _ x) in
    rw is (fill_by_more (λ k. get_or xs k (pos 0) *ℤ power) c.loop-i.out i (pos 0) (omega (arith, c.requires.inside.long)) c.loop-i.invariant)

pub returns : goal.returns
returns c =
    let n = numbers c.args.c.now in
    let xs = c.args.state.now in
    let f : ℤ → ℤ = λ x. x *ℤ pos (2 ^ (n.fraction_bits - n.grid_bits)) in
    let long : length (loaded n xs) ≡ length xs = length-map xs f in
    ext_get_or (pos 0) c.loop-i.out (loaded n xs) (omega (arith, long, c.requires.inside.long))
    (λ i h. c.loop-i.invariant i (omega (arith, h, c.requires.inside.long)) ∙ sym (get_or-map f xs i (pos 0) (pos 0) (omega (arith, h, c.requires.inside.long))))
