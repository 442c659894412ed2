use Rattle.std.proofs.Common.{◌≤◌, ◌^◌, ℤ, unsigned_abs, length, inr, refl, subst, FitsSigned, rules}
use Rattle.std.specs.Int.{w128}
use Rattle.std.proofs.lemmas.Int.{to_z-of_z}
use Rattle.integer_algebra.specs.Sums.{at}
use Rattle.qp_model.specs.bounds.Excess.{brought, reach}
use Rattle.qp_model.specs.form.Quantities.{greatest}
use Rattle.scaled_run.specs.Lists.{HoldsEnclosures}
use Rattle.condensed_form.proofs.Rooms.{read}
use Rattle.scaled_run.proofs.ListFacts.{one_pushed, all_held}
use Rattle.plan_excess.proofs.RoomFacts.{near_more, near_all, above_one}
use Rattle.plan_excess.proofs.rows.numbers.Goals as goal

pub number-requires-clause-radius : goal.number-requires-clause-radius
number-requires-clause-radius c =
    let r : FitsSigned w128 (at c.args.rads.now c.loop-i.i) = search rules in
    rw (to_z-of_z w128 _ r) (c.requires.radii c.loop-i.i c.loop-i-test.true)

pub returns-in_default-clause-refused : goal.returns-in_default-clause-refused
returns-in_default-clause-refused c =
    let m : FitsSigned w128 (at c.args.mids.now c.loop-i.i) = search rules in
    let r : FitsSigned w128 (at c.args.rads.now c.loop-i.i) = search rules in
    let none = rw (to_z-of_z w128 _ m, to_z-of_z w128 _ r, to_z-of_z w128 _ c.ranges.den) at c.in_default.ensures.room.1 in
    inr (
      c.too_wide.ensures,
      above_one c.loop-i.i (length c.args.mids.now) (λ i. reach (brought (unsigned_abs c.args.den) (at c.args.mids.now i) (unsigned_abs (at c.args.rads.now i))))
          c.loop-i-test.true (λ h. let no = none h in cc),
    )

pub loop-i-preserved : goal.loop-i-preserved
loop-i-preserved c =
    let m : FitsSigned w128 (at c.args.mids.now c.loop-i.i) = search rules in
    let r : FitsSigned w128 (at c.args.rads.now c.loop-i.i) = search rules in
    let value = rw (to_z-of_z w128 _ m, to_z-of_z w128 _ r) at c.in-Some.ensures.value in
    let room = rw (to_z-of_z w128 _ m, to_z-of_z w128 _ r) at c.in-Some.ensures.room.0 in
    record {
      made = one_pushed _ _ _ c.loop-i.i (λ i. brought (unsigned_abs (read c.args.den)) (at c.args.mids.now i) (unsigned_abs (at c.args.rads.now i))) c.in_ok-push.ensures.items value c.loop-i.invariant.made;
      near = near_more c.loop-i.i (λ i. reach (brought (unsigned_abs (read c.args.den)) (at c.args.mids.now i) (unsigned_abs (at c.args.rads.now i)))) c.loop-i.invariant.near (room refl);
    }

pub returns-clause-value : goal.returns-clause-value
returns-clause-value c =
    subst (λ (z : ℤ). HoldsEnclosures c.loop-i.out.items (length c.args.mids.now) (λ i. brought (unsigned_abs z) (at c.args.mids.now i) (unsigned_abs (at c.args.rads.now i)))) (to_z-of_z w128 _ c.ranges.den)
    (all_held c.loop-i.out.items c.loop-i.i (length c.args.mids.now) (λ n. n) (λ i. brought (unsigned_abs (read c.args.den)) (at c.args.mids.now i) (unsigned_abs (at c.args.rads.now i)))
    c.loop-i.auto.i-end c.loop-i-test.false c.loop-i.invariant.made)

pub returns-clause-room : goal.returns-clause-room
returns-clause-room c =
    subst (λ (z : ℤ). greatest (length c.args.mids.now) (λ i. reach (brought (unsigned_abs z) (at c.args.mids.now i) (unsigned_abs (at c.args.rads.now i)))) ≤ 2 ^ 126) (to_z-of_z w128 _ c.ranges.den)
    (near_all c.loop-i.i (length c.args.mids.now) (λ i. reach (brought (unsigned_abs (read c.args.den)) (at c.args.mids.now i) (unsigned_abs (at c.args.rads.now i))))
    c.loop-i.auto.i-end c.loop-i-test.false c.loop-i.invariant.near)
