use Rattle.std.proofs.Common.{ℤ, List, length, ap, sym, subst, ◌∙◌, arith}
use Rattle.qp_model.specs.machine.Controller.{numbers}
use Rattle.qp_model.specs.machine.Machine.{IsAdmissible}
use Rattle.std.specs.Vec.{with_items}
use Rattle.qp_model.specs.machine.AbsoluteSums.{state_magnitudes}
use Rattle.qp_model.specs.machine.Within.{AreWithin}
use Rattle.fast_machine.specs.FastProgress.{FastProgress}
use Rattle.fast_machine.proofs.FastHeld.{ready, state_long, cleared, at_start, loaded_within, put, replaced}
use Rattle.fast_machine.proofs.kernel.FastKernel.load_inside.Goals as goal

pub load_state-requires-clause-long : goal.load_state-requires-clause-long
load_state-requires-clause-long c =
    let k = c.self.inside in
    ap length c.deref_mut.ensures.value ∙ state_long (numbers k.parts.now) k.state.items c.self.invariant.sound c.self.invariant.within

pub invariant_of-self : goal.invariant_of-self
invariant_of-self c =
    let k = c.self.inside in
    let r = c.self.invariant in
    let n = numbers k.parts.now in
    let was = ready k r in
    let inside = subst (λ (p : FastProgress). IsAdmissible p.controller c.args.state.now) (sym c.self.view_is) c.requires in
    let out = loaded_within n c.args.state.now c.load_state.new.out r.sound inside c.load_state.ensures in
    let kept = put k.state c.load_state.new.out n.states (state_long n k.state.items r.sound r.within) (state_long n c.load_state.new.out r.sound out) in
    let within = subst (λ (xs : List ℤ). AreWithin xs (state_magnitudes n)) (sym kept) out in
    record {
      sound = r.sound;
      within = within;
      made = omega arith;
      held = replaced k r 0 (with_items k.state c.load_state.new.out).items c.clear.new.numbers c.clear-2.new.numbers c.clear-3.new.numbers c.clear-4.new.numbers c.clear-5.new.numbers within
          (at_start n (with_items k.state c.load_state.new.out).items c.clear.new.numbers c.clear-2.new.numbers c.clear-3.new.numbers c.clear-4.new.numbers c.clear-5.new.numbers
          (cleared k.means.items _ _ _ c.clear.ensures c.deref_mut-2.ensures.value was.means_long) (cleared k.plan.items _ _ _ c.clear-2.ensures c.deref_mut-3.ensures.value was.plan_long)
          (cleared k.multipliers.items _ _ _ c.clear-3.ensures c.deref_mut-4.ensures.value was.rows.multipliers_long)
          (cleared k.reached.items _ _ _ c.clear-4.ensures c.deref_mut-5.ensures.value was.rows.reached_long)
          (cleared k.sums.items _ _ _ c.clear-5.ensures c.deref_mut-6.ensures.value was.entries.sums_long));
      words = r.words;
    }
