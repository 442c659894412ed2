use Rattle.std.proofs.Common.{◌≡◌, pos, ◌*ℤ◌, ◌+◌, ◌<◌, ℤ, List, length, ap, sym, ◌∙◌, rules}
use Rattle.std.specs.Int.{w128}
use mir.Val.{SFits}
use Rattle.std.proofs.lemmas.Int.{to_z-of_z}
use Rattle.integer_algebra.specs.Sums.{at}
use Rattle.frac_scaled.specs.Enclosures.{magnitude}
use Rattle.enclosure.specs.declared.types.Enc.{Enc}
use Rattle.enclosure.specs.Values.{pair_at}
use Rattle.qp_model.specs.problem.Parts.{design_of}
use Rattle.qp_model.specs.problem.Policy.{plans_of}
use Rattle.scaled_run.specs.ScaledCorners.{scaled_gap}
use Rattle.qp_model.specs.problem.Runs.{Holds, counts}
use Rattle.condensed_form.specs.Costs.{weight_of, target_of}
use Rattle.condensed_form.proofs.Pushes.{holds_to}
use Rattle.condensed_form.proofs.Rooms.{read}
use Rattle.corner_margin.proofs.ListFacts.{squares_held, total_held}
use Rattle.corner_margin.proofs.ReachFacts.{below}
use Rattle.corner_margin.proofs.RoomFacts.{cost_side, side_room, square_room, unit_room}
use Rattle.corner_margin.proofs.CostFacts.{target_fits, value_fits, value_gap, gap_small, rows_are, rows_room}
use Rattle.corner_margin.proofs.corner.Corner.row_cost.Goals as goal

pub costs-requires : goal.costs-requires
costs-requires c =
    let self = c.args.self.now in
    side_room self.made.scale

pub scaled_targets-requires-clause-fits : goal.scaled_targets-requires-clause-fits
scaled_targets-requires-clause-fits c =
    let self = c.args.self.now in
    let f : SFits w128 c.signed.result = search rules in
    let over : read c.signed.result ≡ pos self.unit = to_z-of_z w128 _ f ∙ c.signed.ensures in
    λ r l. rw over (target_fits self.made r l)

pub gaps-requires-clause-fits : goal.gaps-requires-clause-fits
gaps-requires-clause-fits c =
    let self = c.args.self.now in
    let f : SFits w128 c.signed.result = search rules in
    let over : read c.signed.result ≡ pos self.unit = to_z-of_z w128 _ f ∙ c.signed.ensures in
    let d = design_of c.args.self.now.run.parts.now in
    λ i l.
    let inside : i < counts d = below i _ _ l (ap (λ (xs : List ℤ). length xs) c.deref-2.ensures.value ∙ c.in_ok-targets.ensures.long) in
    value_fits self.made i inside _ _
    (ap (λ (xs : List Enc). pair_at xs i) c.deref.ensures.value ∙ c.in_ok-values.ensures.is i inside)
    (ap (λ (xs : List ℤ). at xs i) c.deref-2.ensures.value ∙ c.in_ok-targets.ensures.is i inside ∙ ap (λ (z : ℤ). z *ℤ target_of d i) over)

pub weighted_squares-requires-clause-fits : goal.weighted_squares-requires-clause-fits
weighted_squares-requires-clause-fits c =
    let self = c.args.self.now in
    let f : SFits w128 c.signed.result = search rules in
    let over : read c.signed.result ≡ pos self.unit = to_z-of_z w128 _ f ∙ c.signed.ensures in
    let d = design_of c.args.self.now.run.parts.now in
    let s = plans_of c.args.self.now.policy.now in
    let gaps : Holds c.in_ok-gaps.gaps.items (counts d) (λ r. magnitude (scaled_gap self.unit d s (c.args.self.now.number + 1) r)) =
    holds_to _ _ _ _ _ c.in_ok-gaps.ensures (ap (λ (xs : List ℤ). length xs) c.deref-2.ensures.value ∙ c.in_ok-targets.ensures.long)
    (λ i l. value_gap self.made i _ _
    (ap (λ (xs : List Enc). pair_at xs i) c.deref.ensures.value ∙ c.in_ok-values.ensures.is i l)
    (ap (λ (xs : List ℤ). at xs i) c.deref-2.ensures.value ∙ c.in_ok-targets.ensures.is i l ∙ ap (λ (z : ℤ). z *ℤ target_of d i) over)) in
    rw (c.deref-3.ensures.value, c.deref-4.ensures.value)
    (squares_held (counts d) (cost_side self.made.scale) _ _ (weight_of d) _ c.in_ok-weights.ensures gaps
    (gap_small self.made)
    (square_room self.made.scale)
    (rows_room self.made))

pub returns : goal.returns
returns c =
    let self = c.args.self.now in
    let f : SFits w128 c.signed.result = search rules in
    let over : read c.signed.result ≡ pos self.unit = to_z-of_z w128 _ f ∙ c.signed.ensures in
    let d = design_of c.args.self.now.run.parts.now in
    let s = plans_of c.args.self.now.policy.now in
    let r : SFits w128 c.weighted_squares.result = search rules in
    let gaps : Holds c.deref-4.result.now (counts d) (λ r. magnitude (scaled_gap self.unit d s (c.args.self.now.number + 1) r)) =
    rw c.deref-4.ensures.value (holds_to _ _ _ _ _ c.in_ok-gaps.ensures (ap (λ (xs : List ℤ). length xs) c.deref-2.ensures.value ∙ c.in_ok-targets.ensures.long)
    (λ i l. value_gap self.made i _ _
    (ap (λ (xs : List Enc). pair_at xs i) c.deref.ensures.value ∙ c.in_ok-values.ensures.is i l)
    (ap (λ (xs : List ℤ). at xs i) c.deref-2.ensures.value ∙ c.in_ok-targets.ensures.is i l ∙ ap (λ (z : ℤ). z *ℤ target_of d i) over))) in
    let weights : Holds c.deref-3.result.now (counts d) (weight_of d) = rw c.deref-3.ensures.value c.in_ok-weights.ensures in
    to_z-of_z w128 _ r ∙ c.weighted_squares.ensures ∙ total_held (counts d) _ _ _ _ weights gaps ∙
    rows_are self.made

pub gaps-requires-clause-same : goal.gaps-requires-clause-same
gaps-requires-clause-same c =
    let count = ap (λ (xs : List ℤ). length xs) c.deref-2.ensures.value ∙ c.in_ok-targets.ensures.long in
    ap (λ (xs : List Enc). length xs) c.deref.ensures.value ∙ c.in_ok-values.ensures.long ∙ sym count

pub weighted_squares-requires-clause-same : goal.weighted_squares-requires-clause-same
weighted_squares-requires-clause-same c =
    let count = ap (λ (xs : List ℤ). length xs) c.deref-4.ensures.value ∙ c.in_ok-gaps.ensures.long ∙ ap (λ (xs : List ℤ). length xs) c.deref-2.ensures.value ∙ c.in_ok-targets.ensures.long in
    ap (λ (xs : List ℤ). length xs) c.deref-3.ensures.value ∙ c.in_ok-weights.ensures.long ∙ sym count

pub signed-requires : goal.signed-requires
signed-requires c = unit_room c.args.self.now.made.scale
