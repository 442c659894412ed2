-- The first number of bits that is enough.
use Rattle.std.proofs.Common.{◌≡◌, inl, inr, ℕ, ◌+◌, ◌<◌, ◌≤◌, ℤ, pos, ◌≤ℤ◌, ◌<ℤ◌, unsigned_abs, to_z, of_z, true, false, arith}
use Rattle.std.specs.Int.Signed.{le_z}
use Rattle.std.specs.Int.{w128}
use mir.Val.{SFits}
use Rattle.std.proofs.lemmas.Int.{ints, to_z-of_z}
use Rattle.std.proofs.lemmas.Bool.{cases_lt}
use Rattle.qp_model.specs.bounds.Errors.{ErrorSums, epsilon}
use Rattle.step_error.proofs.FallingLaws.{epsilon_falls}

-- a test of the code
taken : (a b : ℤ) → le_z a b ≡ true → a ≤ℤ b
taken a b h = grind (arith, ints)

refused : (a b : ℤ) → le_z a b ≡ false → b <ℤ a
refused a b h = grind (arith, ints)

pub within : (eps limit : ℤ) (n : ℕ) → SFits w128 eps → SFits w128 limit → eps ≡ pos n → pos 1 ≤ℤ limit →
    le_z (to_z w128 (of_z w128 eps)) (to_z w128 (of_z w128 limit)) ≡ true → n ≤ unsigned_abs limit
within eps limit n f g e h t = close eps limit e h (taken eps limit (rw (to_z-of_z w128 eps f, to_z-of_z w128 limit g) at t))
  where
    close : (eps limit : ℤ) → eps ≡ pos n → pos 1 ≤ℤ limit → eps ≤ℤ limit → n ≤ unsigned_abs limit
    close eps limit e h k = omega (arith, ints, e, h, k)

pub above : (eps limit : ℤ) (n : ℕ) → SFits w128 eps → SFits w128 limit → eps ≡ pos n → pos 1 ≤ℤ limit →
    le_z (to_z w128 (of_z w128 eps)) (to_z w128 (of_z w128 limit)) ≡ false → unsigned_abs limit < n
above eps limit n f g e h t = close eps limit e h (refused eps limit (rw (to_z-of_z w128 eps f, to_z-of_z w128 limit g) at t))
  where
    close : (eps limit : ℤ) → eps ≡ pos n → pos 1 ≤ℤ limit → limit <ℤ eps → unsigned_abs limit < n
    close eps limit e h k = omega (arith, ints, e, h, k)

-- fewer bits cost no less
pub enough : (s : ErrorSums) (f limit : ℕ) → 1 ≤ s.rho → f ≤ 48 → epsilon s f ≤ limit → limit < epsilon s 48 → ⊥
enough s f limit p h k l = omega (arith, epsilon_falls s f 48 p h, k, l)

-- all numbers below f and f are all below f + 1
pub one_more : (s : ErrorSums) (g f limit : ℕ) → ((k : ℕ) → g ≤ k → k < f → limit < epsilon s k) → limit < epsilon s f → (k : ℕ) → g ≤ k → k < f + 1 → limit < epsilon s k
one_more s g f limit before last k from to = elim (cases_lt k f) [
  | inl l ↦ before k from l
  | inr l ↦ (let e : k ≡ f = omega (arith, l, to) in rw e last)
]

-- the limit as the code reads it
pub read_again : (z : ℤ) (s : ErrorSums) (g f : ℕ) → SFits w128 z → ((k : ℕ) → g ≤ k → k < f → unsigned_abs (to_z w128 (of_z w128 z)) < epsilon s k) →
    (k : ℕ) → g ≤ k → k < f → unsigned_abs z < epsilon s k
read_again z s g f fits h = rw (to_z-of_z w128 z fits) at h
