use Rattle.std.proofs.Common.{◌^◌, ◌≤◌, ℕ, inr, ◌∙◌, subst, refl, FitsSigned, rules}
use Rattle.std.specs.Int.{w128}
use Rattle.std.proofs.lemmas.Int.{to_z-of_z}
use Rattle.qp_model.specs.problem.Parts.{design_of}
use Rattle.qp_model.specs.problem.Policy.{plans_of}
use Rattle.condensed_form.specs.Form.{held}
use Rattle.plan_excess.specs.Slopes.{IsCornerOf}
use Rattle.plan_excess.proofs.CornerFacts.{plans_held, rows_fit}
use Rattle.plan_excess.proofs.RoomFacts.{beyond}
use Rattle.plan_excess.proofs.WholeFacts.{corner_is, corner_size_is, weights_held, weight_some, floor_some, floor_short}
use Rattle.plan_excess.proofs.corners.excess_at.Goals as goal

pub corner_excess-requires-clause-plans : goal.corner_excess-requires-clause-plans
corner_excess-requires-clause-plans c =
    let is : IsCornerOf (design_of c.args.design.now) (plans_of c.args.policy.now) (plans_of c.args.reference.now) c.args.number c.in_ok-corner.corner = rw c.parts.ensures.value at c.in_ok-corner.ensures in
    plans_held _ _ _ _ c.in_ok-corner.corner is

pub corner_excess-requires-clause-fits : goal.corner_excess-requires-clause-fits
corner_excess-requires-clause-fits c =
    let is : IsCornerOf (design_of c.args.design.now) (plans_of c.args.policy.now) (plans_of c.args.reference.now) c.args.number c.in_ok-corner.corner = rw c.parts.ensures.value at c.in_ok-corner.ensures in
    rows_fit _ _ _ _ c.in_ok-corner.corner is (held c.args.condensed.now) c.args.rows.now c.requires.rows

pub corner_excess-requires-clause-weight : goal.corner_excess-requires-clause-weight
corner_excess-requires-clause-weight c =
    let w : FitsSigned w128 c.args.condensed.now.weight_den = search rules in
    rw (to_z-of_z w128 _ w) (weight_some _ c.args.condensed.now c.requires.form)

pub corner_excess-requires-clause-some : goal.corner_excess-requires-clause-some
corner_excess-requires-clause-some c =
    let f : FitsSigned w128 c.args.condensed.now.input_floor = search rules in
    rw (to_z-of_z w128 _ f) (floor_some _ c.args.condensed.now c.requires.form)

pub corner_excess-requires-clause-floor : goal.corner_excess-requires-clause-floor
corner_excess-requires-clause-floor c =
    let f : FitsSigned w128 c.args.condensed.now.input_floor = search rules in
    rw (to_z-of_z w128 _ f) (floor_short _ c.args.condensed.now c.requires.form)

pub returns-in-Some-clause-value : goal.returns-in-Some-clause-value
returns-in-Some-clause-value c =
    let w : FitsSigned w128 c.args.condensed.now.weight_den = search rules in
    let f : FitsSigned w128 c.args.condensed.now.input_floor = search rules in
    let x : FitsSigned w128 c.in-Some.excess = search rules in
    let is : IsCornerOf (design_of c.args.design.now) (plans_of c.args.policy.now) (plans_of c.args.reference.now) c.args.number c.in_ok-corner.corner = rw c.parts.ensures.value at c.in_ok-corner.ensures in
    let weights = weights_held c.args.design.now c.args.condensed.now c.requires.form c.in_ok-corner.corner is.grid in
    to_z-of_z w128 _ x ∙ c.in-Some.ensures.value (design_of c.args.design.now) (held c.args.condensed.now) c.requires.rows (rw (to_z-of_z w128 _ w, to_z-of_z w128 _ f) weights) ∙
    corner_is (design_of c.args.design.now) (held c.args.condensed.now) _ _ c.args.number c.in_ok-corner.corner is c.requires.form.shapes.hess.rows c.requires.form.shapes.lin.cols

pub returns-in-Some-clause-room : goal.returns-in-Some-clause-room
returns-in-Some-clause-room c =
    let w : FitsSigned w128 c.args.condensed.now.weight_den = search rules in
    let f : FitsSigned w128 c.args.condensed.now.input_floor = search rules in
    let is : IsCornerOf (design_of c.args.design.now) (plans_of c.args.policy.now) (plans_of c.args.reference.now) c.args.number c.in_ok-corner.corner = rw c.parts.ensures.value at c.in_ok-corner.ensures in
    let weights = weights_held c.args.design.now c.args.condensed.now c.requires.form c.in_ok-corner.corner is.grid in
    subst (λ (n : ℕ). n ≤ 2 ^ 126) (corner_size_is (design_of c.args.design.now) (held c.args.condensed.now) _ _ c.args.number c.in_ok-corner.corner is c.requires.form.shapes.hess.rows
    c.requires.form.shapes.lin.cols)
    ((c.in-Some.ensures.room (design_of c.args.design.now) (held c.args.condensed.now) c.requires.rows (rw (to_z-of_z w128 _ w, to_z-of_z w128 _ f) weights)).0 refl)

pub returns-in-None-clause-refused : goal.returns-in-None-clause-refused
returns-in-None-clause-refused c =
    let w : FitsSigned w128 c.args.condensed.now.weight_den = search rules in
    let f : FitsSigned w128 c.args.condensed.now.input_floor = search rules in
    let is : IsCornerOf (design_of c.args.design.now) (plans_of c.args.policy.now) (plans_of c.args.reference.now) c.args.number c.in_ok-corner.corner = rw c.parts.ensures.value at c.in_ok-corner.ensures in
    let weights = weights_held c.args.design.now c.args.condensed.now c.requires.form c.in_ok-corner.corner is.grid in
    let none = (c.in-None.ensures.room (design_of c.args.design.now) (held c.args.condensed.now) c.requires.rows (rw (to_z-of_z w128 _ w, to_z-of_z w128 _ f) weights)).1 in
    inr (
      c.too_wide.ensures,
      beyond _ _ (corner_size_is (design_of c.args.design.now) (held c.args.condensed.now) _ _ c.args.number c.in_ok-corner.corner is c.requires.form.shapes.hess.rows
          c.requires.form.shapes.lin.cols) (λ h. let no = none h in cc),
    )
