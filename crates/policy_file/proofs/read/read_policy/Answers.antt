use Rattle.std.proofs.Common.{◌≡◌, ◌⊎◌, ◌^◌, ℕ, ap, ◌∙◌, subst}
use Rattle.std.specs.Prelude.{IfOk, IfErr, MatchResult}
use Rattle.number_text.specs.declared.text_fault.TextFault.{TextFault}
use Rattle.number_text.specs.declared.text_fault.TextFault.TheVariants.{Memory}
use Rattle.qp_model.specs.problem.Parts.{design_of}
use Rattle.qp_model.specs.problem.Policy.{Plans, plans_of}
use Rattle.qp_model.specs.declared.design_parts.DesignParts.{DesignParts}
use Rattle.policy_file.specs.PolicyText.{ArePlans, IsPlansFault}
use Rattle.policy_file.proofs.PolicyFacts.{states_small}
use Rattle.policy_file.proofs.UniqueFacts.{policy_all_sized}
use Rattle.policy_file.proofs.read.read_policy.Goals as goal

pub corner_count-requires : goal.corner_count-requires
corner_count-requires c = states_small c.parts.result.now c.parts.ensures.sound

-- a plan for each corner
corners : (n : ℕ) (p d : DesignParts) → n ≡ 2 ^ p.states → p ≡ d → n ≡ 2 ^ d.states
corners n p d is same = is ∙ ap (λ (q : DesignParts). 2 ^ q.states) same

pub returns-clause-found : goal.returns-clause-found
returns-clause-found c = subst (λ (n : ℕ). IfOk c.read_plans.result (λ p. ArePlans c.args.bytes.now (design_of c.args.design.now) n (plans_of p))) (corners _ _ _ c.corner_count.ensures c.parts.ensures.value) c.read_plans.ensures.found

pub returns-clause-sized : goal.returns-clause-sized
returns-clause-sized c = policy_all_sized c.args.bytes.now (design_of c.args.design.now) c.read_plans.result (returns-clause-found c)

pub returns-clause-fault : goal.returns-clause-fault
returns-clause-fault c =
    subst (λ (n : ℕ). IfErr c.read_plans.result (λ e. (e ≡ Memory) ⊎ IsPlansFault c.args.bytes.now (design_of c.args.design.now) n e)) (corners _ _ _ c.corner_count.ensures c.parts.ensures.value) c.read_plans.ensures.fault

pub returns-clause-right : goal.returns-clause-right
returns-clause-right c =
    subst (λ (n : ℕ). (plans : Plans) → ArePlans c.args.bytes.now (design_of c.args.design.now) n plans →
    MatchResult c.read_plans.result (λ p. plans_of p ≡ plans) (λ e. e ≡ Memory))
    (corners _ _ _ c.corner_count.ensures c.parts.ensures.value) c.read_plans.ensures.right

pub returns-clause-first : goal.returns-clause-first
returns-clause-first c =
    subst (λ (n : ℕ). (told : TextFault) → IsPlansFault c.args.bytes.now (design_of c.args.design.now) n told →
    MatchResult c.read_plans.result (λ _. ⊥) (λ e. (e ≡ told) ⊎ (e ≡ Memory)))
    (corners _ _ _ c.corner_count.ensures c.parts.ensures.value) c.read_plans.ensures.first
