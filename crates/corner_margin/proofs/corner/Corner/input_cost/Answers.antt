use Rattle.std.proofs.Common.{◌<◌, ◌^◌, ℤ, pos, ◌*ℤ◌, ◌≤ℤ◌, List, length, ap, ap₂, sym, subst, ◌∙◌, rules}
use Rattle.std.specs.Int.{w128}
use mir.Val.{SFits}
use Rattle.std.proofs.lemmas.Int.{to_z-of_z}
use Rattle.frac_scaled.specs.Enclosures.{Enclosure, magnitude}
use Rattle.enclosure.specs.declared.types.Enc.{Enc}
use Rattle.enclosure.specs.Values.{pair_at}
use Rattle.qp_model.specs.problem.Design.{entries}
use Rattle.qp_model.specs.problem.Parts.{design_of}
use Rattle.qp_model.specs.problem.Policy.{plans_of}
use Rattle.qp_model.specs.problem.Runs.{Holds}
use Rattle.condensed_form.proofs.DenominatorFacts.{denominator_fits}
use Rattle.condensed_form.proofs.Pushes.{holds_to}
use Rattle.corner_margin.proofs.ListFacts.{squares_held, total_held}
use Rattle.corner_margin.proofs.ReachFacts.{below}
use Rattle.corner_margin.proofs.RoomFacts.{cost_side, square_room}
use Rattle.corner_margin.proofs.CostFacts.{own, entry_weight, own_small, own_fits, inputs_are, inputs_room}
use Rattle.corner_margin.proofs.corner.Corner.input_cost.Goals as goal

pub reaches-requires-clause-fits : goal.reaches-requires-clause-fits
reaches-requires-clause-fits c =
    let self = c.args.self.now in
    let fr : SFits w128 c.args.self.now.run.parts.now.row_den = denominator_fits _ self.made.scale.design.row_den in
    λ j l.
    let inside : j < entries (design_of c.args.self.now.run.parts.now) = below j _ _ l (ap (λ (xs : List Enc). length xs) c.deref.ensures.value ∙ self.made.plan_is.long) in
    let value = ap₂ (λ (r : ℤ) (e : Enclosure). r *ℤ magnitude e) (to_z-of_z w128 _ fr) (ap (λ (xs : List Enc). pair_at xs j) c.deref.ensures.value ∙ self.made.plan_is.is j inside) in
    subst (λ (z : ℤ). z ≤ℤ pos (2 ^ 126)) (sym value)
    (own_fits self.made j inside)

pub weighted_squares-requires-clause-fits : goal.weighted_squares-requires-clause-fits
weighted_squares-requires-clause-fits c =
    let self = c.args.self.now in
    let d = design_of c.args.self.now.run.parts.now in
    let s = plans_of c.args.self.now.policy.now in
    let fr : SFits w128 c.args.self.now.run.parts.now.row_den = denominator_fits _ self.made.scale.design.row_den in
    let inputs : Holds c.in_ok-inputs.inputs.items (entries d) (own self.made) =
    holds_to _ _ _ _ _ c.in_ok-inputs.ensures (ap (λ (xs : List Enc). length xs) c.deref.ensures.value ∙ self.made.plan_is.long)
    (λ j l. ap₂ (λ (r : ℤ) (e : Enclosure). r *ℤ magnitude e) (to_z-of_z w128 _ fr) (ap (λ (xs : List Enc). pair_at xs j) c.deref.ensures.value ∙ self.made.plan_is.is j l)) in
    rw (c.deref-2.ensures.value, c.deref-3.ensures.value)
    (squares_held (entries d) (cost_side self.made.scale) _ _ _ _ c.in_ok-weights.ensures inputs
    (own_small self.made)
    (square_room self.made.scale)
    (inputs_room self.made))

pub returns : goal.returns
returns c =
    let self = c.args.self.now in
    let d = design_of c.args.self.now.run.parts.now in
    let fr : SFits w128 c.args.self.now.run.parts.now.row_den = denominator_fits _ self.made.scale.design.row_den in
    let r : SFits w128 c.weighted_squares.result = search rules in
    let inputs : Holds c.deref-3.result.now (entries d) (own self.made) =
    rw c.deref-3.ensures.value (holds_to _ _ _ _ _ c.in_ok-inputs.ensures (ap (λ (xs : List Enc). length xs) c.deref.ensures.value ∙ self.made.plan_is.long)
    (λ j l. ap₂ (λ (r : ℤ) (e : Enclosure). r *ℤ magnitude e) (to_z-of_z w128 _ fr) (ap (λ (xs : List Enc). pair_at xs j) c.deref.ensures.value ∙ self.made.plan_is.is j l))) in
    let weights : Holds c.deref-2.result.now (entries d) (entry_weight self.made) =
    rw c.deref-2.ensures.value c.in_ok-weights.ensures in
    to_z-of_z w128 _ r ∙ c.weighted_squares.ensures ∙ total_held (entries d) _ _ _ _ weights inputs ∙
    inputs_are self.made

pub weighted_squares-requires-clause-same : goal.weighted_squares-requires-clause-same
weighted_squares-requires-clause-same c =
    let count = ap (λ (xs : List ℤ). length xs) c.deref-3.ensures.value ∙ c.in_ok-inputs.ensures.long ∙ ap (λ (xs : List Enc). length xs) c.deref.ensures.value ∙ c.args.self.now.made.plan_is.long in
    ap (λ (xs : List ℤ). length xs) c.deref-2.ensures.value ∙ c.in_ok-weights.ensures.long ∙ sym count

pub reaches-requires-clause-scale : goal.reaches-requires-clause-scale
reaches-requires-clause-scale c =
    let h = c.args.self.now.made.scale.design.row_den in
    rw (to_z-of_z w128 _ (denominator_fits _ h)) h.low
