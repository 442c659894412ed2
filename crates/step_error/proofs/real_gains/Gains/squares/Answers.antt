use Rattle.std.proofs.Common.{◌≡◌, ℕ, ◌<◌, ◌≤◌, ◌+◌, ◌*◌, ◌^◌, Fits, arith, sym, ◌∙◌}
use Rattle.std.specs.Int.{w128}
use Rattle.integer_algebra.proofs.PowerLaws.{pow-two}
use Rattle.integer_algebra.proofs.SizeLaws.{amount_next, amount_more}
use Rattle.condensed_form.specs.Form.{held}
use Rattle.step_error.specs.Gains.{gain_at, missed_gradient, combined_of, mean_of}
use Rattle.step_error.proofs.RoomTests.{room_each}
use Rattle.step_error.proofs.RunLaws.{one_of}
use Rattle.step_error.proofs.real_gains.Gains.squares.Goals as goal

pub gradient-requires-clause-room : goal.gradient-requires-clause-room
gradient-requires-clause-room c =
    let self = c.args.self.now in
    room_each (held self.c.now) (combined_of (held self.c.now) self.state self.top) c.loop-j.j c.requires.room
    (omega (arith, c.loop-j-test.true, c.rows-j-end.ensures.count))

-- a square of the code is a power
squared : {m n : ℕ} → m ≡ n → m * m ≡ n ^ 2
squared {m} {n} e = (λ i. e i * e i) ∙ sym (pow-two n)

next : {s a m b t : ℕ} → s ≡ a → m ≡ b → a + b ≤ t → t ≤ 2 ^ 126 → s + m ≤ 2 ^ 126
next {s} {a} {m} {b} {t} e g h k = omega (arith, e, g, h, k)

pub overflow_add-error : goal.overflow_add-error
overflow_add-error c =
    let self = c.args.self.now in
    let error : ℕ → ℕ = λ j.
    missed_gradient (held self.c.now) self.f (gain_at self.p_mat.now self.t.now self.w_mat.now) self.state self.top j
    + mean_of (held self.c.now) self.means j in
    let l : c.loop-j.j < (held self.c.now).entries = omega (arith, c.loop-j-test.true, c.rows-j-end.ensures.count) in
    close (λ i. c.gradient.ensures i + c.mean.ensures i) (one_of (held self.c.now).entries c.loop-j.j error l c.requires.small)
  where
    close : {a b : ℕ} → a ≡ b → b ≤ 2 ^ 126 → Fits w128 a
    close {a} {b} e h = omega (arith, e, h)

pub overflow_add-squares : goal.overflow_add-squares
overflow_add-squares c =
    let self = c.args.self.now in
    let error : ℕ → ℕ = λ j.
    missed_gradient (held self.c.now) self.f (gain_at self.p_mat.now self.t.now self.w_mat.now) self.state self.top j
    + mean_of (held self.c.now) self.means j in
    let l : c.loop-j.j < (held self.c.now).entries = omega (arith, c.loop-j-test.true, c.rows-j-end.ensures.count) in
    let small = next c.loop-j.invariant (squared (λ i. c.gradient.ensures i + c.mean.ensures i))
    (amount_next c.loop-j.j (held self.c.now).entries (λ j. error j ^ 2) l) c.requires.small in
    omega (arith, small)

pub overflow_mul-squares : goal.overflow_mul-squares
overflow_mul-squares c =
    let self = c.args.self.now in
    let error : ℕ → ℕ = λ j.
    missed_gradient (held self.c.now) self.f (gain_at self.p_mat.now self.t.now self.w_mat.now) self.state self.top j
    + mean_of (held self.c.now) self.means j in
    let l : c.loop-j.j < (held self.c.now).entries = omega (arith, c.loop-j-test.true, c.rows-j-end.ensures.count) in
    let small = next c.loop-j.invariant (squared (λ i. c.gradient.ensures i + c.mean.ensures i))
    (amount_next c.loop-j.j (held self.c.now).entries (λ j. error j ^ 2) l) c.requires.small in
    omega (arith, small)

pub loop-j-preserved : goal.loop-j-preserved
loop-j-preserved c =
    let self = c.args.self.now in
    let error : ℕ → ℕ = λ j.
    missed_gradient (held self.c.now) self.f (gain_at self.p_mat.now self.t.now self.w_mat.now) self.state self.top j
    + mean_of (held self.c.now) self.means j in
    (λ i. c.loop-j.invariant i + squared (λ k. c.gradient.ensures k + c.mean.ensures k) i) ∙ sym (amount_more c.loop-j.j (λ j. error j ^ 2))
