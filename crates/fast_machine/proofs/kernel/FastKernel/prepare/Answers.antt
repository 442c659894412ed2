use Rattle.std.proofs.Common.{◌≡◌, length, replicate, pos, ap, sym, subst, ◌∙◌, arith, rules, List, ℕ, ℤ}
use Rattle.std.specs.Vec.{with_items}
use Rattle.std.proofs.lemmas.List.{length-replicate}
use Rattle.qp_model.specs.machine.AbsoluteSums.{state_magnitudes}
use Rattle.qp_model.specs.machine.Within.{AreWithin}
use Rattle.qp_model.specs.machine.Controller.{numbers}
use Rattle.qp_model.specs.machine.Machine.{loaded}
use Rattle.fast_machine.proofs.FastRooms.{low_inside}
use Rattle.fast_machine.proofs.FastHeld.{state_long, at_start, loaded_within, put}
use Rattle.fast_machine.proofs.kernel.FastKernel.prepare.Goals as goal

pub invariant_of-result : goal.invariant_of-result
invariant_of-result c =
    let n = numbers c.args.parts.now in
    let shaped = c.requires.form.sized.rest.shaped in
    let out : c.load_state.new.out ≡ loaded n n.low = c.load_state.ensures ∙ ap (loaded n) c.deref.ensures.value in
    let means : c.in_ok-vec.field-0.items ≡ replicate n.rows (pos 0) = search rules in
    let plan : c.in_ok-vec-2.field-0.items ≡ replicate (length n.offsets) (pos 0) = search rules in
    let multipliers : c.in_ok-vec-3.field-0.items ≡ replicate n.rows (pos 0) = search rules in
    let reached : c.in_ok-vec-4.field-0.items ≡ replicate n.rows (pos 0) = search rules in
    let sums : c.in_ok-vec-5.field-0.items ≡ replicate (length n.offsets) (pos 0) = search rules in
    let rows = ap (λ (k : ℕ). replicate k (pos 0)) (sym shaped.bounds) in
    let state : c.in_ok-state.state.items ≡ replicate n.states (pos 0) = search rules in
    let full = loaded_within n n.low c.load_state.new.out c.requires (low_inside n c.requires) out in
    let kept = put c.in_ok-state.state c.load_state.new.out n.states (ap length state ∙ length-replicate n.states (pos 0)) (state_long n c.load_state.new.out c.requires full) in
    record {
      sound = c.requires;
      within = subst (λ (xs : List ℤ). AreWithin xs (state_magnitudes n)) (sym kept) full;
      made = omega arith;
      held = at_start n (with_items c.in_ok-state.state c.load_state.new.out).items c.in_ok-vec.field-0.items c.in_ok-vec-2.field-0.items c.in_ok-vec-3.field-0.items c.in_ok-vec-4.field-0.items
          c.in_ok-vec-5.field-0.items (means ∙ rows) plan (multipliers ∙ rows) (reached ∙ rows) sums;
      words = c.in_ok-of.ensures;
    }
