-- How far the state and the multipliers reach.
use Rattle.std.proofs.Common.{◌≡◌, ℕ, ◌+◌, ◌*◌, ◌^◌, ◌<◌, ◌≤◌, ℤ, pos, ◌+ℤ◌, ◌*ℤ◌, ◌≤ℤ◌, List, unsigned_abs, arith, refl}
use Rattle.std.proofs.lemmas.Int.{ints, unsigned_abs-mul}
use Rattle.std.proofs.lemmas.Nat.{pow-add}
use Rattle.std.proofs.Math.Nat.{mul-le-mul_left}
use Rattle.integer_algebra.specs.Sums.{total, at}
use Rattle.integer_algebra.specs.Bounds.{absolute}
use Rattle.integer_algebra.proofs.SumLaws.{total_mono, total_const}
use Rattle.qp_model.specs.machine.Controller.{Numbers}
use Rattle.step_error.specs.Machine.{pulls}
use Rattle.step_error.proofs.Gains.{over_columns, state_pull, own_pull, row_pull}

-- a power of two times a number
scaled : (s f a : ℕ) (z : ℤ) → unsigned_abs z ≤ a * 2 ^ f → absolute (pos (2 ^ s) *ℤ z) ≤ℤ pos (a * 2 ^ (f + s))
scaled s f a z h = let p = pow-add 2 f s in let m = mul-le-mul_left (2 ^ s) h in
    (let e : unsigned_abs (pos (2 ^ s) *ℤ z) ≤ a * 2 ^ (f + s) = rw (unsigned_abs-mul (pos (2 ^ s)) z, p) (omega (arith, m)) in omega (arith, ints, e))

-- one of the state
pub state_pull_reach : (c : Numbers) (x l : List ℤ) (b i : ℕ) → i < c.states → unsigned_abs (at x i) ≤ b * 2 ^ c.fraction_bits →
    absolute (pulls c x l i) ≤ℤ pos (b * 2 ^ (c.fraction_bits + c.step_exponent))
state_pull_reach c x l b i h k = rw (state_pull c x l i h) (scaled c.step_exponent c.fraction_bits b (at x i) k)

-- the absolute values of all pulls, from bounds on those of the state and of the multipliers
pub pulls_reach : (c : Numbers) (x l : List ℤ) (b y : ℕ) →
    ((i : ℕ) → i < c.states → unsigned_abs (at x i) ≤ b * 2 ^ c.fraction_bits) →
    ((i : ℕ) → i < c.rows → unsigned_abs (at l i) ≤ y * 2 ^ (c.fraction_bits + c.step_exponent)) →
    total (c.states + 1 + c.rows) (λ i. absolute (pulls c x l i)) ≤ℤ (pos (2 ^ (c.fraction_bits + c.step_exponent)) *ℤ pos (c.states * b + 1 + c.rows * y))
pulls_reach c x l b y hx hl =
    rw (over_columns c.states c.rows (λ i. absolute (pulls c x l i)))
    (summed _ _ _ (2 ^ (c.fraction_bits + c.step_exponent)) c.states c.rows b y states own rows)
  where
    states : total c.states (λ i. absolute (pulls c x l i)) ≤ℤ (pos c.states *ℤ pos (b * 2 ^ (c.fraction_bits + c.step_exponent)))
    states = rw (← (total_const c.states (pos (b * 2 ^ (c.fraction_bits + c.step_exponent)))))
        (total_mono c.states _ _ (λ i h. rw (state_pull c x l i h) (scaled c.step_exponent c.fraction_bits b (at x i) (hx i h))))

    own : absolute (pulls c x l c.states) ≡ pos (2 ^ (c.fraction_bits + c.step_exponent))
    own = rw (own_pull c x l) refl

    rows : total c.rows (λ i. absolute (pulls c x l (c.states + 1 + i))) ≤ℤ (pos c.rows *ℤ pos (y * 2 ^ (c.fraction_bits + c.step_exponent)))
    rows = rw (← (total_const c.rows (pos (y * 2 ^ (c.fraction_bits + c.step_exponent)))))
        (total_mono c.rows _ _ (λ i h. rw (row_pull c x l i) (let k = hl i h in omega (arith, ints, k))))

    summed : (a o e : ℤ) (w n m b y : ℕ) → a ≤ℤ (pos n *ℤ pos (b * w)) → o ≡ pos w → e ≤ℤ (pos m *ℤ pos (y * w)) →
        (a +ℤ o +ℤ e) ≤ℤ (pos w *ℤ pos (n * b + 1 + m * y))
    summed a o e w n m b y h k g = omega (arith, ints, h, k, g)
