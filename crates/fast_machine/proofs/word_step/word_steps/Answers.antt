use Rattle.std.proofs.Common.{ap, sym, subst, ◌∙◌, arith}
use Rattle.qp_model.specs.machine.Controller.{numbers}
use Rattle.overflow_check.specs.FastMachine.{fast_step}
use Rattle.fast_machine.specs.FastReady.{IsFastReady}
use Rattle.fast_machine.proofs.FastRuns.{run_kept, fast_after_suc}
use Rattle.fast_machine.proofs.word_step.word_steps.Goals as goal

pub word_step-requires : goal.word_step-requires
word_step-requires c =
    let n = numbers c.args.c.now in
    let s = c.requires.setting in
    record {
      setting = s;
      bases = c.requires.bases;
      step = omega arith;
      ready = subst (IsFastReady n c.loop-k.k) (sym c.loop-k.invariant) (run_kept n c.args.state.now c.loop-k.k s.sound.form.sized.rest.clamp_low s.state);
    }

pub loop-k-preserved : goal.loop-k-preserved
loop-k-preserved c =
    let n = numbers c.args.c.now in
    c.word_step.ensures ∙ ap (fast_step n c.args.state.now c.loop-k.k) c.loop-k.invariant ∙ sym (fast_after_suc n c.args.state.now c.loop-k.k)
