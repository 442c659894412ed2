use Rattle.std.proofs.Common.{◌≡◌, ◌<◌, ◌≤◌, ◌^◌, ◌↔◌, ℤ, length, unsigned_abs, arith, refl, FitsSigned, to_z, of_z, rules, IsSome, IfSome}
use Rattle.std.specs.Int.{w128}
use Rattle.std.proofs.lemmas.Int.{to_z-of_z}
use Rattle.integer_algebra.specs.Sums.{at}
use Rattle.enclosure.specs.Values.{pair}
use Rattle.qp_model.specs.bounds.Excess.{brought, reach}
use Rattle.corner_margin.proofs.RoomFacts.{over_is}
use Rattle.plan_excess.proofs.FormFacts.{plan_within, state_within, row_given, row_room, row_refused}
use Rattle.plan_excess.proofs.RoomFacts.{fault_passed}
use Rattle.plan_excess.proofs.rows.row_of.Goals as goal

pub line-requires-clause-radii : goal.line-requires-clause-radii
line-requires-clause-radii c = λ i l.
    let s = c.requires.form.1.shapes in
    c.requires.form.1.radii.hess c.args.j i (omega (arith, s.hess.rows, c.requires.row)) (omega (arith, s.hess.cols, l))

pub line-requires-2-clause-radii : goal.line-requires-2-clause-radii
line-requires-2-clause-radii c = λ i l.
    let s = c.requires.form.1.shapes in
    c.requires.form.1.radii.lin c.args.j i (omega (arith, s.hess.rows, c.requires.row)) (omega (arith, s.lin.cols, l))

pub returns-in_err-plan-clause-refused : goal.returns-in_err-plan-clause-refused
returns-in_err-plan-clause-refused c = λ p is.
    let d : FitsSigned w128 c.args.c.now.hess_den = search rules in
    fault_passed c.from_residual.result _ _ _ c.from_residual.ensures.1 (plan_within p c.args.c.now is c.args.j) (rw (to_z-of_z w128 _ d) at c.in_err-plan.ensures.refused)

pub returns-in_err-state-clause-refused : goal.returns-in_err-state-clause-refused
returns-in_err-state-clause-refused c = λ p is.
    let d : FitsSigned w128 c.args.c.now.hess_den = search rules in
    fault_passed c.from_residual-in_err-state.result _ _ _ c.from_residual-in_err-state.ensures.1 (state_within p c.args.c.now is c.args.j) (rw (to_z-of_z w128 _ d) at c.in_err-state.ensures.refused)

pub number-requires-clause-radius : goal.number-requires-clause-radius
number-requires-clause-radius c =
    let s = c.requires.form.1.shapes in
    let l : c.args.j < length c.args.c.now.off_rad.items = omega (arith, s.hess.rows, s.off_rad, c.requires.row) in
    let r : c.index-2.result.now ≡ at c.args.c.now.off_rad.items c.args.j = over_is _ _ _ c.index-2.ensures l refl in
    let f : FitsSigned w128 c.index-2.result.now = search rules in
    rw (to_z-of_z w128 _ f, r) (c.requires.form.1.radii.off c.args.j (omega (arith, s.hess.rows, c.requires.row)))

-- what the constant is made of, as the form has it
as_held : (c : goal.After-joined) (P : ℤ → ℤ → ℤ → Type 0) → P (to_z w128 (of_z w128 c.index.result.now)) (to_z w128 (of_z w128 c.index-2.result.now)) (to_z w128 (of_z w128 c.args.c.now.hess_den)) →
    P (at c.args.c.now.off.items c.args.j) (at c.args.c.now.off_rad.items c.args.j) c.args.c.now.hess_den
as_held c P h =
    let s = c.requires.form.1.shapes in
    let d : FitsSigned w128 c.args.c.now.hess_den = search rules in
    let f : FitsSigned w128 c.index.result.now = search rules in
    let g : FitsSigned w128 c.index-2.result.now = search rules in
    let l : c.args.j < length c.args.c.now.off.items = omega (arith, s.hess.rows, s.off, c.requires.row) in
    let k : c.args.j < length c.args.c.now.off_rad.items = omega (arith, s.hess.rows, s.off_rad, c.requires.row) in
    let m : c.index.result.now ≡ at c.args.c.now.off.items c.args.j = over_is _ _ _ c.index.ensures l refl in
    let r : c.index-2.result.now ≡ at c.args.c.now.off_rad.items c.args.j = over_is _ _ _ c.index-2.ensures k refl in
    rw (to_z-of_z w128 _ d, to_z-of_z w128 _ f, to_z-of_z w128 _ g, m, r) at h

-- where it is none
number_room : (c : goal.After-joined) →
    IsSome c.number.result ↔ (reach (brought (unsigned_abs c.args.c.now.hess_den) (at c.args.c.now.off.items c.args.j) (unsigned_abs (at c.args.c.now.off_rad.items c.args.j))) ≤ 2 ^ 126)
number_room c = as_held c (λ mid rad den. IsSome c.number.result ↔ (reach (brought (unsigned_abs den) mid (unsigned_abs rad)) ≤ 2 ^ 126)) c.number.ensures.room

pub returns-clause-value : goal.returns-clause-value
returns-clause-value c = λ p is.
    let d : FitsSigned w128 c.args.c.now.hess_den = search rules in
    row_given p c.args.c.now is c.args.j c.joined.result c.in_ok-plan.plan.items c.in_ok-state.state.items c.number.result
    (rw (to_z-of_z w128 _ d) at c.in_ok-plan.ensures.value) (rw (to_z-of_z w128 _ d) at c.in_ok-state.ensures.value)
    (as_held c (λ mid rad den. IfSome c.number.result (λ e. pair e ≡ brought (unsigned_abs den) mid (unsigned_abs rad))) c.number.ensures.value) c.joined.ensures.value

pub returns-clause-room : goal.returns-clause-room
returns-clause-room c = λ p is.
    let d : FitsSigned w128 c.args.c.now.hess_den = search rules in
    row_room p c.args.c.now is c.args.j c.joined.result c.in_ok-plan.plan.items c.in_ok-state.state.items c.number.result
    (rw (to_z-of_z w128 _ d) at c.in_ok-plan.ensures.room) (rw (to_z-of_z w128 _ d) at c.in_ok-state.ensures.room) (number_room c) c.joined.ensures.value

pub returns-clause-refused : goal.returns-clause-refused
returns-clause-refused c = λ p is. row_refused p c.args.c.now is c.args.j c.joined.result c.number.result (number_room c) c.joined.ensures.refused
