use Rattle.std.proofs.Common.{◌≡◌, ℕ, ◌+◌, ◌-◌, ◌/◌, ◌%◌, ◌^◌, ◌<◌, ◌≤◌, ◌==◌, Bool, true, false, if◌then◌else◌, ℤ, pos, List, unsigned_abs, rules, arith, ap₂, ◌∙◌}
use Rattle.std.proofs.lemmas.List.Elements.{All-get_or}
use Rattle.std.specs.Int.{w128}
use mir.Val.{SFits}
use Rattle.std.proofs.lemmas.Int.{to_z-of_z}
use Rattle.integer_algebra.specs.Sums.{at}
use Rattle.qp_model.specs.problem.Parts.{design_of, IsNumeratorList}
use Rattle.qp_model.specs.problem.Range.{IsNumerator}
use Rattle.scaled_run.specs.ScaledCorners.{over_unit, scaled_corner_state}
use Rattle.scaled_run.proofs.ListFacts.{one_pushed}
use Rattle.corner_margin.proofs.RoomFacts.{one_times, product_room}
use Rattle.corner_margin.proofs.corner.start_of.Goals as goal

pub loop-i-preserved : goal.loop-i-preserved
loop-i-preserved c =
    let f : SFits w128 c.coordinate.result = search rules in
    let g : SFits w128 c.scaled-grid.result = search rules in
    one_pushed _ _ c.over_unit.result c.loop-i.i (scaled_corner_state c.args.unit (design_of c.args.parts.now) (c.args.c + 1)) c.in_ok-push.ensures.items
    (c.over_unit.ensures ∙ ap₂ (λ (x y : ℤ). over_unit c.args.unit x (unsigned_abs y)) (to_z-of_z w128 _ f ∙ c.coordinate.ensures)
    (to_z-of_z w128 _ g ∙ c.scaled-grid.ensures ∙ one_times (2 ^ c.args.parts.now.grid)))
    c.loop-i.invariant

-- a corner's coordinate is a number of the box
numerator_at : (xs : List ℤ) (n i : ℕ) → IsNumeratorList xs n → i < n → unsigned_abs (at xs i) < 2 ^ 31
numerator_at xs n i h l = All-get_or IsNumerator xs i (pos 0) (omega (arith, l, h.long)) h.numbers

either : (b : Bool) (x y : ℤ) → unsigned_abs x < 2 ^ 31 → unsigned_abs y < 2 ^ 31 → unsigned_abs (if b then x else y) < 2 ^ 31
either true x y h k = h
either false x y h k = k

pub over_unit-requires-clause-fits : goal.over_unit-requires-clause-fits
over_unit-requires-clause-fits c =
    let p = c.args.parts.now in
    let f : SFits w128 c.coordinate.result = search rules in
    let small = either (c.args.c / 2 ^ c.loop-i.i % 2 == 1) (at p.hi.items c.loop-i.i) (at p.lo.items c.loop-i.i) (numerator_at p.hi.items p.states c.loop-i.i c.requires.design.hi c.loop-i-test.true)
    (numerator_at p.lo.items p.states c.loop-i.i c.requires.design.lo c.loop-i-test.true) in
    let less : c.args.c + 1 - 1 ≡ c.args.c = omega arith in
    rw (to_z-of_z w128 _ f, c.coordinate.ensures, less) (product_room c.args.unit _ c.requires.unit (near small))
  where
    near : {n : ℕ} → n < 2 ^ 31 → n ≤ 2 ^ 63
    near h = omega (arith, h)
