use Rattle.std.proofs.Common.{◌≡◌, List, ℤ, length, ap, sym, subst, ◌∙◌, rules}
use Rattle.qp_model.specs.machine.Controller.{numbers}
use Rattle.qp_model.specs.machine.Machine.{Iterate}
use Rattle.fixed_kernel.specs.Ready.{IsStepSetting, IsReadyToStep}
use Rattle.fixed_kernel.specs.Raised.{raised_step}
use Rattle.fixed_kernel.specs.Spans.{words_of, made_of, state_in}
use Rattle.fixed_kernel.proofs.Words.{made_lent_in}
use Rattle.fixed_kernel.proofs.step.advance.Goals as goal

pub make_step-requires-clause-setting : goal.make_step-requires-clause-setting
make_step-requires-clause-setting c = subst (IsStepSetting (numbers c.args.c.now) c.args.narrow) (sym c.split_at_mut-state.ensures.front) c.requires.setting

pub make_step-requires-clause-ready : goal.make_step-requires-clause-ready
make_step-requires-clause-ready c =
    let n = numbers c.args.c.now in
    let multipliers = c.split_at_mut-multipliers.ensures in
    let plan = c.split_at_mut-plan.ensures in
    let entries : c.len.result ≡ length n.offsets = search rules in
    subst (IsReadyToStep n) (sym (made_lent_in n c.args.words.now _ _ _ _ _ _ c.split_at_mut-state.ensures.back multipliers.front multipliers.back entries plan.front plan.back)) c.requires.ready

pub returns : goal.returns
returns c =
    let n = numbers c.args.c.now in
    let words = c.args.words.now in
    let state = c.split_at_mut-state in
    let multipliers = c.split_at_mut-multipliers in
    let plan = c.split_at_mut-plan in
    let entries : c.len.result ≡ length n.offsets = search rules in
    ap (words_of state.result.0.now) c.make_step.ensures
    ∙ ap (λ (xs : List ℤ). words_of xs (raised_step n xs (made_of plan.result.0.now multipliers.result.0.now plan.result.1.now))) state.ensures.front
    ∙ ap (λ (made : Iterate). words_of (state_in n words) (raised_step n (state_in n words) made))
    (made_lent_in n words _ _ _ _ _ _ state.ensures.back multipliers.ensures.front multipliers.ensures.back entries plan.ensures.front plan.ensures.back)
