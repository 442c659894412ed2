-- What the lists of a kernel hold, by its rule.
use Rattle.std.proofs.Common.{◌≡◌, ℕ, ◌+◌, ℤ, pos, List, Vec, Global, length, replicate, ap, sym, subst, ◌∙◌}
use Rattle.std.specs.Vec.{with_items}
use Rattle.std.proofs.lemmas.List.{with_items_is}
use Rattle.qp_model.specs.machine.Controller.{Numbers, numbers}
use Rattle.qp_model.specs.machine.Machine.{IsAdmissible, loaded}
use Rattle.qp_model.specs.machine.AbsoluteSums.{state_magnitudes}
use Rattle.qp_model.specs.machine.Within.{AreWithin}
use Rattle.overflow_check.proofs.Sizes.{length-state_reach}
use Rattle.overflow_check.specs.FastMachine.{FastIterate, fast_lists, fast_step, fast_after}
use Rattle.overflow_check.specs.FastController.{with_last_version, IsFastController}
use Rattle.fast_machine.specs.FastReady.{IsFastReady}
use Rattle.fast_machine.specs.FastProgress.{fast_held_in, IsFastReached}
use Rattle.fast_machine.specs.declared.kernel.FastKernel.TheInside.{Inside}
use Rattle.fast_machine.proofs.FastRuns.{run_kept, grid_within, fast_after_suc, fast_after_zero}

-- what one more step asks
pub ready : (k : Inside) → IsFastReached k → IsFastReady (numbers k.parts.now) k.made (fast_held_in k)
ready k r = subst (IsFastReady (numbers k.parts.now) k.made) (sym r.held) (run_kept (numbers k.parts.now) k.state.items k.made r.sound.form.sized.rest.clamp_low r.within)

pub state_long : (c : Numbers) (state : List ℤ) → IsFastController c → AreWithin state (state_magnitudes c) → length state ≡ c.states
state_long c state s w = w.long ∙ length-state_reach (with_last_version c) s.form.sized.rest

-- a list that is cleared
pub cleared : (xs ys zs : List ℤ) (n : ℕ) → zs ≡ replicate (length ys) (pos 0) → ys ≡ xs → length xs ≡ n → zs ≡ replicate n (pos 0)
cleared xs ys zs n h e l = h ∙ ap (λ (k : ℕ). replicate k (pos 0)) (ap length e ∙ l)

-- cleared lists are those of no step
pub at_start : (c : Numbers) (state means plan multipliers reached sums : List ℤ) → means ≡ replicate (length c.bounds) (pos 0) → plan ≡ replicate (length c.offsets) (pos 0) →
    multipliers ≡ replicate (length c.bounds) (pos 0) → reached ≡ replicate (length c.bounds) (pos 0) → sums ≡ replicate (length c.offsets) (pos 0) →
    fast_lists means plan multipliers reached sums ≡ fast_after c state 0
at_start c state means plan multipliers reached sums a b d e f = rw (a, b, d, e, f) (sym (fast_after_zero c state))

pub loaded_within : (c : Numbers) (xi xs : List ℤ) → IsFastController c → IsAdmissible c xi → xs ≡ loaded c xi → AreWithin xs (state_magnitudes c)
loaded_within c xi xs s g e = subst (λ (ys : List ℤ). AreWithin ys (state_magnitudes c)) (sym e) (grid_within c xi s g)

-- the lists after one more step
pub stepped : (k : Inside) → IsFastReached k → (state : List ℤ) (old new : FastIterate) → state ≡ k.state.items → old ≡ fast_held_in k → new ≡ fast_step (numbers k.parts.now) state k.made old →
    new ≡ fast_after (numbers k.parts.now) k.state.items (k.made + 1)
stepped k r state old new e f h =
    let c = numbers k.parts.now in
    h ∙ ap (λ (xs : List ℤ). fast_step c xs k.made old) e ∙ ap (fast_step c k.state.items k.made) (f ∙ r.held) ∙ sym (fast_after_suc c k.state.items k.made)

-- ---- vectors that are written whole
pub put : (v : Vec ℤ Global) (ws : List ℤ) (n : ℕ) → length v.items ≡ n → length ws ≡ n → (with_items v ws).items ≡ ws
put v ws n h l = with_items_is v ws (l ∙ sym h ∙ sym v.ok.0)

-- room for words that were lent and written is as long as it was
pub refilled : (room : Vec ℤ Global) (lent new : List ℤ) (n : ℕ) → length new ≡ length lent → length lent ≡ room.len → lent ≡ room.items → length room.items ≡ n → length (with_items room new).items ≡ n
refilled room lent new n kept whole was long = ap length (with_items_is room new (kept ∙ whole)) ∙ kept ∙ ap length was ∙ long

-- those of a kernel, by lists that the machine has made
pub replaced : (k : Inside) → IsFastReached k → (j : ℕ) (state means plan multipliers reached sums : List ℤ) → AreWithin state (state_magnitudes (numbers k.parts.now)) →
    fast_lists means plan multipliers reached sums ≡ fast_after (numbers k.parts.now) state j →
    fast_lists (with_items k.means means).items (with_items k.plan plan).items (with_items k.multipliers multipliers).items (with_items k.reached reached).items (with_items k.sums sums).items
    ≡ fast_after (numbers k.parts.now) state j
replaced k r j state means plan multipliers reached sums w h =
    let c = numbers k.parts.now in
    let now : IsFastReady c j (fast_lists means plan multipliers reached sums) = subst (IsFastReady c j) (sym h) (run_kept c state j r.sound.form.sized.rest.clamp_low w) in
    let was = ready k r in
    rw (
      put k.means means (length c.bounds) was.means_long now.means_long,
      put k.plan plan (length c.offsets) was.plan_long now.plan_long,
      put k.multipliers multipliers (length c.bounds) was.rows.multipliers_long now.rows.multipliers_long,
      put k.reached reached (length c.bounds) was.rows.reached_long now.rows.reached_long,
      put k.sums sums (length c.offsets) was.entries.sums_long now.entries.sums_long,
    ) h
