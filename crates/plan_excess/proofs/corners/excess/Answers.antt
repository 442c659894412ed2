use Rattle.std.proofs.Common.{◌≡◌, ◌^◌, ◌<◌, ◌≤◌, ℕ, suc, pos, ◌∙◌, ap, arith, subst, FitsSigned, rules}
use Rattle.std.specs.Int.{w128}
use Rattle.std.proofs.lemmas.Int.{to_z-of_z}
use Rattle.qp_model.specs.problem.Parts.{design_of}
use Rattle.qp_model.specs.problem.Policy.{plans_of}
use Rattle.qp_model.specs.form.Quantities.{greatest}
use Rattle.qp_model.specs.bounds.Excess.{corner_excess, at_least_none}
use Rattle.condensed_form.specs.Form.{held}
use Rattle.plan_excess.specs.Slopes.{corner_size}
use Rattle.plan_excess.proofs.RoomFacts.{fault_passed, near_more}
use Rattle.plan_excess.proofs.WholeFacts.{excess_is, numbers_within, corner_within, whole_room, most_next}
use Rattle.plan_excess.proofs.corners.excess.Goals as goal

pub returns-in_err-rows-clause-refused : goal.returns-in_err-rows-clause-refused
returns-in_err-rows-clause-refused c =
    fault_passed c.from_residual.result _ _ _ c.from_residual.ensures.1 (numbers_within c.args.design.now c.args.condensed.now c.requires.form (plans_of c.args.policy.now) (plans_of c.args.reference.now))
    (c.in_err-rows.ensures.refused c.args.design.now c.requires.form)

pub excess_at-requires-clause-rows : goal.excess_at-requires-clause-rows
excess_at-requires-clause-rows c = rw c.deref.ensures.value (c.in_ok-rows.ensures.value c.args.design.now c.requires.form)

pub returns-in_err-next-clause-refused : goal.returns-in_err-next-clause-refused
returns-in_err-next-clause-refused c =
    let l : c.loop-number.number < 2 ^ (design_of c.args.design.now).states = omega (arith, c.loop-number-test.true, c.rows-number-end.ensures.count, c.requires.plans.rows) in
    fault_passed c.from_residual-in_err-next.result _ _ _ c.from_residual-in_err-next.ensures.1
    (corner_within c.args.design.now c.args.condensed.now c.requires.form (plans_of c.args.policy.now) (plans_of c.args.reference.now) c.loop-number.number l) c.in_err-next.ensures.refused

pub loop-number-preserved : goal.loop-number-preserved
loop-number-preserved c =
    let d = design_of c.args.design.now in
    let h = held c.args.condensed.now in
    let p = plans_of c.args.policy.now in
    let r = plans_of c.args.reference.now in
    let m : FitsSigned w128 c.max-most.result = search rules in
    let n : FitsSigned w128 c.in_ok-next.next = search rules in
    let value = rw (to_z-of_z w128 _ n) at c.max-most.ensures.value in
    record {
      most = to_z-of_z w128 _ m ∙ value ∙ most_next c.loop-number.number (λ k. corner_excess d h p r (suc k)) _ _ c.loop-number.invariant.most c.in_ok-next.ensures.value;
      near = near_more c.loop-number.number (corner_size d h p r) c.loop-number.invariant.near c.in_ok-next.ensures.room;
    }

pub returns-clause-value : goal.returns-clause-value
returns-clause-value c =
    let d = design_of c.args.design.now in
    let h = held c.args.condensed.now in
    let p = plans_of c.args.policy.now in
    let r = plans_of c.args.reference.now in
    let all : c.loop-number.number ≡ 2 ^ (design_of c.args.design.now).states = omega (arith, c.loop-number.auto.number-end, c.loop-number-test.false, c.rows-number-end.ensures.count, c.requires.plans.rows) in
    c.loop-number.invariant.most ∙ ap (λ (n : ℕ). pos (greatest n (λ k. at_least_none (corner_excess d h p r (suc k))))) all ∙
    ap (λ (n : ℕ). pos n) (excess_is c.args.design.now c.args.condensed.now c.requires.form p r)

pub returns-clause-room : goal.returns-clause-room
returns-clause-room c =
    let d = design_of c.args.design.now in
    let h = held c.args.condensed.now in
    let p = plans_of c.args.policy.now in
    let r = plans_of c.args.reference.now in
    let all : c.loop-number.number ≡ 2 ^ (design_of c.args.design.now).states = omega (arith, c.loop-number.auto.number-end, c.loop-number-test.false, c.rows-number-end.ensures.count, c.requires.plans.rows) in
    whole_room c.args.design.now c.args.condensed.now c.requires.form p r (c.in_ok-rows.ensures.room c.args.design.now c.requires.form)
    (subst (λ (n : ℕ). greatest n (corner_size d h p r) ≤ 2 ^ 126) all c.loop-number.invariant.near)
