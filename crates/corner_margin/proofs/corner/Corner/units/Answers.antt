use Rattle.std.proofs.Common.{◌≡◌, ◌+◌, ◌*◌, ◌<◌, ℤ, pos, ◌*ℤ◌, List, length, unsigned_abs, arith, ap, sym, ◌∙◌, rules, refl}
use Rattle.std.specs.Int.{w128}
use mir.Val.{SFits}
use Rattle.std.proofs.lemmas.Int.{to_z-of_z}
use Rattle.std.proofs.lemmas.Result.{err_from_is_err_and}
use Rattle.qp_model.specs.problem.Design.{rows}
use Rattle.qp_model.specs.problem.Parts.{design_of}
use Rattle.qp_model.specs.problem.Policy.{plans_of}
use Rattle.scaled_run.specs.ScaledCorners.{scaled_least_slack}
use Rattle.corner_margin.specs.Corner.{shown_over}
use Rattle.qp_model.specs.problem.Runs.{Holds}
use Rattle.qp_model.proofs.SizeFacts.{some_row}
use Rattle.qp_model.proofs.VersionLaws.{design_states_le, design_rows_le}
use Rattle.frac_scaled.specs.declared.fraction.Frac.{Frac}
use Rattle.condensed_form.proofs.Rooms.{read}
use Rattle.condensed_form.proofs.DenominatorFacts.{denominator_fits}
use Rattle.corner_margin.proofs.RoomFacts.{over_is, unit_room}
use Rattle.corner_margin.proofs.SlackFacts.{short_row, units_of}
use Rattle.corner_margin.proofs.FaultFacts.{no_margin_same, corner_few, memory_unshort, memory_unwide, made_apart, none_made}
use Rattle.corner_margin.proofs.SlackFacts.{slack_within, den_size, den_is, den_some}
use Rattle.corner_margin.proofs.corner.Corner.units.Goals as goal

pub first_short-requires : goal.first_short-requires
first_short-requires c =
    let self = c.args.self.now in
    let d = design_of c.args.self.now.run.parts.now in
    let held : Holds c.deref.result.now (rows d) (scaled_least_slack self.unit d (plans_of c.args.self.now.policy.now) (c.args.self.now.number + 1)) = rw c.deref.ensures.value c.in_ok-slacks.ensures in
    λ i l.
    let inside : i < rows d = rw (← held.long) l in
    rw (held.is i inside) (slack_within self.made.scale i inside)

pub invariant_of-result : goal.invariant_of-result
invariant_of-result c =
    let self = c.args.self.now in
    let f : SFits w128 c.brought-den.result = search rules in
    let fl : SFits w128 c.args.self.now.run.parts.now.limit_den = denominator_fits _ self.made.scale.design.limit_den in
    record { positive = rw (to_z-of_z w128 _ f, c.brought-den.ensures, to_z-of_z w128 _ fl) (den_some self.made.scale) }

pub returns-in-Some-clause-short : goal.returns-in-Some-clause-short
returns-in-Some-clause-short c =
    let self = c.args.self.now in
    let d = design_of c.args.self.now.run.parts.now in
    let s = plans_of c.args.self.now.policy.now in
    let f : SFits w128 c.brought-den.result = search rules in
    let fl : SFits w128 c.args.self.now.run.parts.now.limit_den = denominator_fits _ self.made.scale.design.limit_den in
    let fx : SFits w128 c.index.result.now = search rules in
    let den : read c.brought-den.result ≡ pos (unsigned_abs c.args.self.now.run.parts.now.limit_den * self.unit) =
    to_z-of_z w128 _ f ∙ c.brought-den.ensures ∙ ap (λ (z : ℤ). pos self.unit *ℤ z) (to_z-of_z w128 _ fl) ∙ den_is self.made.scale in
    let held : Holds c.deref.result.now (rows d) (scaled_least_slack self.unit d s (c.args.self.now.number + 1)) = rw c.deref.ensures.value c.in_ok-slacks.ensures in
    let found = c.in-Some.ensures in
    λ corner row slack e.
    let same = no_margin_same e in (
      sym same.0,
      short_row (shown_over self.unit d s) (rows d) (c.args.self.now.number + 1) c.in-Some.i row slack same.1.0 (rw (← held.long) found.0)
          (λ k l. (let o : k < rows d = omega (arith, l, found.0, held.long) in rw (← (held.is k o), ← den) (found.2 k l)))
          (rw (← (held.is c.in-Some.i (rw (← held.long) found.0)), ← den) found.1)
          (sym (ap (λ (x : Frac). x.num) same.1.1) ∙ to_z-of_z w128 _ fx ∙ over_is _ c.in-Some.i (rows d) c.index.ensures (rw (← held.long) found.0) c.in_ok-slacks.ensures.long ∙
          c.in_ok-slacks.ensures.is c.in-Some.i (rw (← held.long) found.0))
          (sym (ap (λ (x : Frac). x.den) same.1.1) ∙ den),
    )

pub least_of-requires : goal.least_of-requires
least_of-requires c =
    let self = c.args.self.now in
    omega (arith, ap (λ (xs : List ℤ). length xs) c.deref-in-None.ensures.value, c.in_ok-slacks.ensures.long, some_row self.run.parts.now self.made.scale.design)

pub in_units-requires-clause-divisor : goal.in_units-requires-clause-divisor
in_units-requires-clause-divisor c =
    let self = c.args.self.now in
    let f : SFits w128 c.brought-den.result = search rules in
    let fl : SFits w128 c.args.self.now.run.parts.now.limit_den = denominator_fits _ self.made.scale.design.limit_den in
    rw (to_z-of_z w128 _ f, c.brought-den.ensures, to_z-of_z w128 _ fl) (den_some self.made.scale)

pub in_units-requires-clause-fits : goal.in_units-requires-clause-fits
in_units-requires-clause-fits c =
    let self = c.args.self.now in
    let d = design_of c.args.self.now.run.parts.now in
    let s = plans_of c.args.self.now.policy.now in
    let f : SFits w128 c.least_of.result = search rules in
    let held : Holds c.deref-in-None.result.now (rows d) (scaled_least_slack self.unit d s (c.args.self.now.number + 1)) = rw c.deref-in-None.ensures.value c.in_ok-slacks.ensures in
    let met = c.least_of.ensures.met in
    let inside : met.0 < rows d = rw (← held.long) met.1.0 in
    rw (to_z-of_z w128 _ f, met.1.1, held.is met.0 inside) (slack_within self.made.scale met.0 inside)

pub returns-clause-units : goal.returns-clause-units
returns-clause-units c =
    let self = c.args.self.now in
    let d = design_of c.args.self.now.run.parts.now in
    let s = plans_of c.args.self.now.policy.now in
    let f : SFits w128 c.brought-den.result = search rules in
    let fl : SFits w128 c.args.self.now.run.parts.now.limit_den = denominator_fits _ self.made.scale.design.limit_den in
    let fr : SFits w128 c.in_units.result = search rules in
    let fm : SFits w128 c.least_of.result = search rules in
    let read_den : read c.brought-den.result ≡ pos self.unit *ℤ c.args.self.now.run.parts.now.limit_den =
    to_z-of_z w128 _ f ∙ c.brought-den.ensures ∙ ap (λ (z : ℤ). pos self.unit *ℤ z) (to_z-of_z w128 _ fl) in
    let held : Holds c.deref.result.now (rows d) (scaled_least_slack self.unit d s (c.args.self.now.number + 1)) = rw c.deref.ensures.value c.in_ok-slacks.ensures in
    let held_again : Holds c.deref-in-None.result.now (rows d) (scaled_least_slack self.unit d s (c.args.self.now.number + 1)) = rw c.deref-in-None.ensures.value c.in_ok-slacks.ensures in
    let met = c.least_of.ensures.met in
    let inside : met.0 < rows d = rw (← held_again.long) met.1.0 in
    rw (to_z-of_z w128 _ fr)
    (units_of (shown_over self.unit d s) (rows d) (c.args.self.now.number + 1) c.least_of.result (pos self.unit *ℤ c.args.self.now.run.parts.now.limit_den) c.in_units.result
    (den_is self.made.scale) (den_some self.made.scale)
    (λ i l. rw (← (held.is i l), ← read_den) (c.in-None.ensures i (rw held.long l)))
    (λ i l. rw (← (held_again.is i l)) (c.least_of.ensures.below i (rw held_again.long l)))
    met.0 inside (met.1.1 ∙ held_again.is met.0 inside)
    (c.in_units.ensures ∙ rw (to_z-of_z w128 _ fm, read_den) refl))

-- ---- the places of the corner and of the row
module _ (c : goal.After-row_known-1) where
  corner : c.args.self.now.number < 64
  corner = let self = c.args.self.now in corner_few self.number self.run.parts.now.states self.made.scale.inside (design_states_le self.run.parts.now self.made.scale.design)

  row : c.in-Some.i < 372
  row =
      let self = c.args.self.now in
      omega (arith, c.in-Some.ensures.0, ap (λ (xs : List ℤ). length xs) c.deref.ensures.value, c.in_ok-slacks.ensures.long, design_rows_le self.run.parts.now self.made.scale.design)

pub overflow_cast-result : goal.overflow_cast-result
overflow_cast-result c = record { fits = omega (arith, corner c) }

pub overflow_add-result : goal.overflow_add-result
overflow_add-result c = record { fits = omega (arith, corner c) }

pub overflow_cast-result-in-Some : goal.overflow_cast-result-in-Some
overflow_cast-result-in-Some c = record { fits = omega (arith, row c) }

pub overflow_add-result-in-Some : goal.overflow_add-result-in-Some
overflow_add-result-in-Some c = record { fits = omega (arith, row c) }

-- ---- what the slacks are over
pub brought-den-requires-clause-unit : goal.brought-den-requires-clause-unit
brought-den-requires-clause-unit c = unit_room c.args.self.now.made.scale

pub brought-den-requires-clause-fits : goal.brought-den-requires-clause-fits
brought-den-requires-clause-fits c =
    let self = c.args.self.now in
    let fl : SFits w128 c.args.self.now.run.parts.now.limit_den = denominator_fits _ self.made.scale.design.limit_den in
    rw (to_z-of_z w128 _ fl) (den_size self.made.scale)

pub returns-in_err-slacks-clause-short : goal.returns-in_err-slacks-clause-short
returns-in_err-slacks-clause-short c = λ corner row slack e.
    let y = err_from_is_err_and c.from_residual.result c.from_residual.ensures.1 in
    absurd (memory_unshort y.1 y.2 e)

pub returns-in_err-slacks-clause-room : goal.returns-in_err-slacks-clause-room
returns-in_err-slacks-clause-room c = λ q e.
    let y = err_from_is_err_and c.from_residual.result c.from_residual.ensures.1 in
    memory_unwide y.1 y.2 e

pub returns-in_err-slacks-clause-units : goal.returns-in_err-slacks-clause-units
returns-in_err-slacks-clause-units c = none_made _ (err_from_is_err_and c.from_residual.result c.from_residual.ensures.1).1

pub returns-clause-short : goal.returns-clause-short
returns-clause-short c = λ corner row slack e. absurd (made_apart e)

pub returns-clause-room : goal.returns-clause-room
returns-clause-room c = λ q e. made_apart e
