use Rattle.std.specs.Int.{w128}
use mir.Val.{SFits}
use Rattle.std.proofs.lemmas.Int.{to_z-of_z}
use Rattle.std.proofs.Common.{rules, ◌≡◌, ◌+◌, ◌<◌, ℤ, pos, ◌-ℤ◌, ◌*ℤ◌, List, length, arith, ap, ap₂, ◌∙◌}
use Rattle.std.proofs.lemmas.Result.{IfOk-weaker}
use Rattle.integer_algebra.specs.Sums.{at}
use Rattle.frac_scaled.specs.Enclosures.{Enclosure}
use Rattle.enclosure.specs.declared.types.Enc.{Enc}
use Rattle.enclosure.specs.Values.{pair_at}
use Rattle.qp_model.specs.problem.Design.{rows}
use Rattle.qp_model.specs.problem.Parts.{design_of}
use Rattle.qp_model.specs.problem.Policy.{plans_of}
use Rattle.scaled_run.specs.ScaledCorners.{scaled_corner_limit, scaled_least_slack}
use Rattle.qp_model.specs.problem.Runs.{bound_at}
use Rattle.condensed_form.proofs.Pushes.{holds_to}
use Rattle.corner_margin.proofs.ListFacts.{slack_room}
use Rattle.corner_margin.proofs.RunFacts.{limit_is}
use Rattle.corner_margin.proofs.SlackFacts.{bound_fits, value_fits}
use Rattle.condensed_form.proofs.Rooms.{read}
use Rattle.corner_margin.proofs.RoomFacts.{limit_room, unit_room}
use Rattle.corner_margin.proofs.corner.Corner.slacks.Goals as goal

pub scaled_bounds-requires-clause-fits : goal.scaled_bounds-requires-clause-fits
scaled_bounds-requires-clause-fits c =
    let self = c.args.self.now in
    let f : SFits w128 c.signed.result = search rules in
    let over : read c.signed.result ≡ pos self.unit = to_z-of_z w128 _ f ∙ c.signed.ensures in
    λ i l. rw over (bound_fits self.made.scale i l)

pub slacks-requires-clause-fits : goal.slacks-requires-clause-fits
slacks-requires-clause-fits c =
    let self = c.args.self.now in
    let d = design_of c.args.self.now.run.parts.now in
    let s = plans_of c.args.self.now.policy.now in
    let f : SFits w128 c.signed.result = search rules in
    let over : read c.signed.result ≡ pos self.unit = to_z-of_z w128 _ f ∙ c.signed.ensures in
    λ i l.
    let inside : i < rows d = omega (arith, l, ap (λ (xs : List ℤ). length xs) c.deref.ensures.value, c.in_ok-bounds.ensures.long) in
    slack_room (pos self.unit *ℤ bound_at d i) _ _ (scaled_corner_limit self.unit d s (c.args.self.now.number + 1) i)
    (ap (λ (xs : List ℤ). at xs i) c.deref.ensures.value ∙ c.in_ok-bounds.ensures.is i inside ∙ ap (λ (z : ℤ). z *ℤ bound_at d i) over)
    (ap (λ (xs : List Enc). pair_at xs i) c.deref-2.ensures.value ∙ c.in_ok-values.ensures.is i inside ∙ limit_is self.made i)
    (value_fits self.made.scale i inside)

pub returns : goal.returns
returns c =
    let self = c.args.self.now in
    let d = design_of c.args.self.now.run.parts.now in
    let s = plans_of c.args.self.now.policy.now in
    let f : SFits w128 c.signed.result = search rules in
    let over : read c.signed.result ≡ pos self.unit = to_z-of_z w128 _ f ∙ c.signed.ensures in
    IfOk-weaker c.slacks.result _ _
    (λ v h. holds_to v.items _ _ _ (scaled_least_slack self.unit d s (c.args.self.now.number + 1)) h
    (ap (λ (xs : List ℤ). length xs) c.deref.ensures.value ∙ c.in_ok-bounds.ensures.long)
    (λ i l. ap₂ (λ (b : ℤ) (e : Enclosure). b -ℤ e.mid -ℤ e.rad)
    (ap (λ (xs : List ℤ). at xs i) c.deref.ensures.value ∙ c.in_ok-bounds.ensures.is i l ∙ ap (λ (z : ℤ). z *ℤ bound_at d i) over)
    (ap (λ (xs : List Enc). pair_at xs i) c.deref-2.ensures.value ∙ c.in_ok-values.ensures.is i l ∙ limit_is self.made i)))
    c.slacks.ensures

pub limits-requires : goal.limits-requires
limits-requires c = limit_room c.args.self.now.made.scale

pub signed-requires : goal.signed-requires
signed-requires c = unit_room c.args.self.now.made.scale
