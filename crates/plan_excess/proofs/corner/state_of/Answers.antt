use Rattle.std.proofs.Common.{◌≡◌, ℕ, suc, ◌+◌, arith, ap, ◌∙◌, FitsSigned, rules}
use Rattle.std.specs.Int.{w128}
use Rattle.std.proofs.lemmas.Int.{to_z-of_z}
use Rattle.qp_model.specs.problem.Box.{corner}
use Rattle.qp_model.specs.problem.Parts.{design_of}
use Rattle.condensed_form.proofs.Pushes.{pushed}
use Rattle.corner_margin.proofs.ListFacts.{all_pushed}
use Rattle.plan_excess.proofs.corner.state_of.Goals as goal

pub coordinate-requires-clause-state : goal.coordinate-requires-clause-state
coordinate-requires-clause-state c = c.loop-i-test.true

pub loop-i-preserved : goal.loop-i-preserved
loop-i-preserved c =
    let d = design_of c.args.parts.now in
    let f : FitsSigned w128 c.coordinate.result = search rules in
    let one : c.args.c + 1 ≡ suc c.args.c = omega arith in
    let is : c.coordinate.result ≡ corner (design_of c.args.parts.now) (suc c.args.c) c.loop-i.i = c.coordinate.ensures ∙ ap (λ (n : ℕ). corner d n c.loop-i.i) one in
    pushed _ _ _ c.loop-i.i (corner d (suc c.args.c)) c.in_ok-push.ensures.items (to_z-of_z w128 c.coordinate.result f ∙ is) c.loop-i.invariant

pub returns : goal.returns
returns c =
    all_pushed c.loop-i.out.items c.loop-i.i c.args.parts.now.states (corner (design_of c.args.parts.now) (suc c.args.c)) c.loop-i.auto.i-end c.loop-i-test.false c.loop-i.invariant
