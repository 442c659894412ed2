use Rattle.std.proofs.Common.{ap, sym, subst, ◌∙◌, arith}
use Rattle.qp_model.specs.machine.Controller.{numbers}
use Rattle.qp_model.specs.machine.Machine.{Iterate, after}
use Rattle.overflow_check.proofs.Runs.{after_suc, after_multipliers_length}
use Rattle.fixed_kernel.specs.Raised.{with_raised, raised_step}
use Rattle.fixed_kernel.specs.WordForm.{IsReadyInWords}
use Rattle.fixed_kernel.proofs.Raised.{step_with_raised}
use Rattle.fixed_kernel.proofs.WordRooms.{ready_in_words}
use Rattle.fixed_kernel.proofs.word_step.word_steps.Goals as goal

pub word_step-requires-clause-ready : goal.word_step-requires-clause-ready
word_step-requires-clause-ready c =
    let n = numbers c.args.c.now in
    let state = c.args.state.now in
    subst (λ (m : Iterate). IsReadyInWords n state c.args.entry_starts.now c.args.row_starts.now m) (sym c.loop-k.invariant)
    (ready_in_words n state c.args.entry_starts.now c.args.row_starts.now c.loop-k.k c.requires.setting.sound c.requires.setting.sized c.requires.setting.state c.requires.entry_starts c.requires.row_starts (omega arith))

pub loop-k-preserved : goal.loop-k-preserved
loop-k-preserved c =
    let n = numbers c.args.c.now in
    let state = c.args.state.now in
    let made = after n state c.loop-k.k in
    c.word_step.ensures ∙ ap (raised_step n state) c.loop-k.invariant ∙ step_with_raised n state made (after_multipliers_length n state c.loop-k.k) ∙ ap (with_raised n) (sym (after_suc n state c.loop-k.k))
