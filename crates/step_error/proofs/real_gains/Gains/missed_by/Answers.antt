use Rattle.std.proofs.Common.{◌≤◌, ◌+◌, ◌*◌, ◌^◌, Fits, ℕ, ◌≡◌, arith}
use Rattle.std.specs.Int.{w128}
use Rattle.integer_algebra.proofs.SizeLaws.{amount_next}
use Rattle.condensed_form.specs.Form.{held}
use Rattle.step_error.specs.Gains.{gain_at, missed}
use Rattle.step_error.proofs.GainRooms.{half_each}
use Rattle.step_error.proofs.Missed.{missed_by_le}
use Rattle.step_error.proofs.real_gains.Gains.missed_by.Goals as goal

pub overflow_add-sum : goal.overflow_add-sum
overflow_add-sum c =
    let self = c.args.self.now in
    let h = held self.c.now in
    let gains = gain_at self.p_mat.now self.t.now self.w_mat.now in
    let all = missed_by_le h self.f gains c.args.first c.args.n c.args.j
    (λ i l. half_each self.c.now _ _ _ _ _ _ self.made (c.args.first + i) c.args.j (omega (arith, l, c.requires.columns)) c.requires.entry) in
    close (amount_next c.loop-i.i c.args.n (λ i. missed h self.f gains (c.args.first + i) c.args.j) c.loop-i-test.true) c.loop-i.invariant c.missed-sum.ensures all c.requires.room
  where
    close : {s m a b n t : ℕ} → a + b ≤ n → s ≡ a → m ≡ b → 2 * n ≤ t → t ≤ 2 ^ 128 → Fits w128 (s + m)
    close {s} {m} {a} {b} {n} {t} h e g k l = omega (arith, h, e, g, k, l)

pub missed-sum-requires-clause-entry : goal.missed-sum-requires-clause-entry
missed-sum-requires-clause-entry c = c.requires.entry
