use Rattle.std.proofs.Common.{ℤ, List, sym, subst}
use Rattle.qp_model.specs.machine.Controller.{numbers}
use Rattle.qp_model.specs.machine.AbsoluteSums.{state_magnitudes}
use Rattle.qp_model.specs.machine.Within.{AreWithin}
use Rattle.fast_machine.proofs.kernel.FastKernel.finish_in_words.Goals as goal

pub finish-requires-clause-setting : goal.finish-requires-clause-setting
finish-requires-clause-setting c =
    let k = c.self.inside in
    record {
      sound = c.self.invariant.sound;
      within = subst (λ (xs : List ℤ). AreWithin xs (state_magnitudes (numbers k.parts.now))) (sym c.deref.ensures.value) c.self.invariant.within;
    }

pub finish-requires-clause-start : goal.finish-requires-clause-start
finish-requires-clause-start c =
    let k = c.self.inside in
    rw (c.deref.ensures.value, c.deref_mut.ensures.value, c.deref_mut-2.ensures.value, c.deref_mut-3.ensures.value, c.deref_mut-4.ensures.value, c.deref_mut-5.ensures.value) c.self.invariant.held
