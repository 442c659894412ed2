use Rattle.scaled_condense.proofs.UnitFacts.{over_small}
use Rattle.std.proofs.Common.{[], rules, ◌≡◌, ℕ, ◌<◌, arith, ap, subst, ◌∙◌}
use Rattle.std.specs.Int.{w128}
use mir.Val.{SFits}
use Rattle.std.proofs.lemmas.Int.{to_z-of_z}
use Rattle.scaled_run.specs.ScaledForm.{whole}
use Rattle.qp_model.specs.problem.Design.{CostRow}
use Rattle.qp_model.specs.problem.Parts.{design_of}
use Rattle.qp_model.specs.problem.Runs.{counts}
use Rattle.qp_model.specs.form.FineForm.{counted_row}
use Rattle.scaled_run.specs.Lists.{HoldsEnclosures}
use Rattle.scaled_run.proofs.ListFacts.{one_pushed}
use Rattle.scaled_condense.proofs.TargetFacts.{counted_at, target_room}
use Rattle.scaled_condense.proofs.columns.targets.Goals as goal

pub loop-c-preserved : goal.loop-c-preserved
loop-c-preserved c =
    let f : SFits w128 c.target_at.result = search rules in
    one_pushed c.loop-c.out.items _ c.whole.result c.loop-c.c (λ i. whole c.args.over (counted_row (design_of c.args.parts.now) i).target) c.in_ok-push.ensures.items
    (c.whole.ensures ∙ ap (whole c.args.over) (to_z-of_z w128 _ f ∙ c.target_at.ensures ∙ counted_at (design_of c.args.parts.now) (λ (r : CostRow). r.target) c.loop-c.c)) c.loop-c.invariant

pub returns : goal.returns
returns c =
    let e : c.loop-c.c ≡ counts (design_of c.args.parts.now) = omega (arith, c.cost_count-c-end.ensures) in
    subst (λ (n : ℕ). HoldsEnclosures c.loop-c.out.items n (λ i. whole c.args.over (counted_row (design_of c.args.parts.now) i).target)) e c.loop-c.invariant

pub whole-requires-clause-room : goal.whole-requires-clause-room
whole-requires-clause-room c =
    let p = c.args.parts.now in
    let f : SFits w128 c.target_at.result = search rules in
    let inside : c.loop-c.c < counts (design_of p) = rw c.cost_count-c-end.ensures at c.loop-c-test.true in
    rw (to_z-of_z w128 _ f, c.target_at.ensures) (target_room (design_of p) c.args.over c.args.reach c.loop-c.c inside c.requires.scale.covers c.requires.fits)

pub whole-requires-clause-small : goal.whole-requires-clause-small
whole-requires-clause-small c = over_small c.args.parts.now c.args.over c.args.reach [] [] 0 c.requires.scale
