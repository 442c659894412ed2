use Rattle.std.proofs.Common.{◌≡◌, ◌+◌, ◌<◌, ap, sym, subst, ◌∙◌, arith, refl}
use Rattle.qp_model.specs.machine.Controller.{numbers}
use Rattle.overflow_check.specs.FastMachine.{fast_lists, fast_step, fast_after}
use Rattle.fast_machine.specs.FastProgress.{FastProgress, fast_made_of, fast_progress_of}
use Rattle.fast_machine.proofs.FastRuns.{fast_after_suc}
use Rattle.fast_machine.proofs.FastHeld.{ready, stepped, replaced}
use Rattle.fast_machine.proofs.kernel.FastKernel.step.Goals as goal

pub make_step-requires-clause-ready : goal.make_step-requires-clause-ready
make_step-requires-clause-ready c =
    rw (c.deref_mut.ensures.value, c.deref_mut-2.ensures.value, c.deref_mut-3.ensures.value, c.deref_mut-4.ensures.value, c.deref_mut-5.ensures.value) (ready c.self.inside c.self.invariant)

-- the lists after the step
made_more : (c : goal.After-self-6-1) → fast_lists c.make_step.new.means c.make_step.new.plan c.make_step.new.multipliers c.make_step.new.reached c.make_step.new.sums
    ≡ fast_after (numbers c.self.inside.parts.now) c.self.inside.state.items (c.self.inside.made + 1)
made_more c =
    stepped c.self.inside c.self.invariant c.deref.result.now (fast_lists c.deref_mut.result.now c.deref_mut-2.result.now c.deref_mut-3.result.now c.deref_mut-4.result.now c.deref_mut-5.result.now) _
    c.deref.ensures.value (rw (c.deref_mut.ensures.value, c.deref_mut-2.ensures.value, c.deref_mut-3.ensures.value, c.deref_mut-4.ensures.value, c.deref_mut-5.ensures.value) refl) c.make_step.ensures

pub invariant_of-self : goal.invariant_of-self
invariant_of-self c =
    let r = c.self.invariant in
    let lt : c.self.inside.made < (numbers c.self.inside.parts.now).steps = subst (λ (p : FastProgress). p.made < p.controller.steps) (sym c.self.view_is) c.requires in
    record {
      sound = r.sound;
      within = r.within;
      made = omega (arith, lt);
      held = replaced c.self.inside r (c.self.inside.made + 1) c.self.inside.state.items c.make_step.new.means c.make_step.new.plan c.make_step.new.multipliers c.make_step.new.reached
          c.make_step.new.sums r.within (made_more c);
      words = r.words;
    }

pub returns-clause-values : goal.returns-clause-values
returns-clause-values c =
    let p = fast_progress_of c.self.inside in
    fast_after_suc p.controller p.state p.made ∙ ap (λ (q : FastProgress). fast_step q.controller q.state q.made (fast_made_of q)) c.self.view_is
