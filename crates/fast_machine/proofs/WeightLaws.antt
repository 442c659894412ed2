-- The weights of the steps.
use Rattle.std.proofs.Common.{◌≡◌, ℕ, zero, suc, [], ◌∷◌, ℤ, pos, ◌+ℤ◌, ◌*ℤ◌, ◌≤ℤ◌, ◌<ℤ◌, arith, refl}
use Rattle.std.proofs.lemmas.Int.{ints}
use Rattle.integer_algebra.specs.Sums.{square}
use Rattle.integer_algebra.proofs.OrderLaws.{le_by, mul-le-mul_left_z, cancel-le_z}
use Rattle.integer_algebra.proofs.SumLaws.{total_nonneg}
use Rattle.integer_algebra.proofs.RingLaws.{same_by, add_equations}
use Rattle.integer_algebra.proofs.Quoting.{by_ring, quotes}
use Rattle.fast_machine.specs.Fast.{weight, weights, carried, WeightsLaw, StartLaw, CarryLaw}

pub weight_positive : (k : ℕ) → pos 0 <ℤ weight k
weight_positive k = omega (arith, ints)

pub weight_nonneg : (k : ℕ) → pos 0 ≤ℤ weight k
weight_nonneg k = omega (arith, ints)

pub weights_nonneg : (n : ℕ) → pos 0 ≤ℤ weights n
weights_nonneg n = total_nonneg n weight (λ k l. weight_nonneg k)

weight_is : (k : ℕ) → weight k ≡ pos k +ℤ pos 2
weight_is k = omega (arith, ints)

next_is : (k : ℕ) → pos (suc k) ≡ pos k +ℤ pos 1
next_is k = omega (arith, ints)

-- one more weight
one_more : (n m a s : ℤ) → m ≡ n +ℤ pos 1 → a ≡ n +ℤ pos 2 → pos 2 *ℤ s ≡ n *ℤ (n +ℤ pos 3) → pos 2 *ℤ (s +ℤ a) ≡ m *ℤ (m +ℤ pos 3)
one_more n m a s e f h = rw (e, f) (same_by h (by_ring (n ∷ s ∷ []) (search quotes depth 60 fits 20000) refl))

pub weights_law : WeightsLaw
weights_law zero = refl
weights_law (suc n) = one_more (pos n) (pos (suc n)) (weight n) (weights n) (next_is n) (weight_is n) (weights_law n)

-- the square of a weight
pub start_law : StartLaw
start_law k = squared (pos k) (weight k) (weights k) (omega (arith, ints)) (weight_is k) (weights_law k)
  where
    squared : (k a s : ℤ) → pos 0 ≤ℤ k → a ≡ k +ℤ pos 2 → pos 2 *ℤ s ≡ k *ℤ (k +ℤ pos 3) → square a ≤ℤ (pos 2 *ℤ (s +ℤ a))
    squared k a s h e f = rw e (le_by h (same_by f (by_ring (k ∷ s ∷ []) (search quotes depth 60 fits 20000) refl)))

-- the sums of the weights up to each step come to n (n + 1) (n + 5) / 6
carried_more : (n m a w t : ℤ) → m ≡ n +ℤ pos 1 → a ≡ n +ℤ pos 2 → pos 2 *ℤ w ≡ n *ℤ (n +ℤ pos 3) → pos 6 *ℤ t ≡ n *ℤ (n +ℤ pos 1) *ℤ (n +ℤ pos 5) →
    pos 6 *ℤ (t +ℤ (w +ℤ a)) ≡ m *ℤ (m +ℤ pos 1) *ℤ (m +ℤ pos 5)
carried_more n m a w t e f h k = rw (e, f) (same_by (add_equations k (times_three h)) (by_ring (n ∷ w ∷ t ∷ []) (search quotes depth 60 fits 20000) refl))
  where
    times_three : {x y : ℤ} → x ≡ y → pos 3 *ℤ x ≡ pos 3 *ℤ y
    times_three {x} {y} e = rw e refl

carried_is : (n : ℕ) → pos 6 *ℤ carried n ≡ pos n *ℤ (pos n +ℤ pos 1) *ℤ (pos n +ℤ pos 5)
carried_is zero = refl
carried_is (suc n) = carried_more (pos n) (pos (suc n)) (weight n) (weights n) (carried n) (next_is n) (weight_is n) (weights_law n) (carried_is n)

pub carry_law : CarryLaw
carry_law n j h = within (pos n) (weights n) (carried n) (omega (arith, ints)) (weights_law n) (carried_is n) h
  where
    within : (n w t : ℤ) → pos 0 ≤ℤ n → pos 2 *ℤ w ≡ n *ℤ (n +ℤ pos 3) → pos 6 *ℤ t ≡ n *ℤ (n +ℤ pos 1) *ℤ (n +ℤ pos 5) →
        ((n +ℤ pos 1) *ℤ (n +ℤ pos 5)) ≤ℤ (pos 3 *ℤ (n +ℤ pos 3) *ℤ j) → t ≤ℤ (j *ℤ w)
    within n w t p e f k = cancel-le_z (pos 6) _ _ (omega (arith, ints)) (rw (f, spread j w, e) (le_by (mul-le-mul_left_z n p k)
        (by_ring (n ∷ j ∷ []) (search quotes depth 60 fits 20000) refl)))
      where
        spread : (j w : ℤ) → pos 6 *ℤ (j *ℤ w) ≡ pos 3 *ℤ j *ℤ (pos 2 *ℤ w)
        spread j w = by_ring (j ∷ w ∷ []) (search quotes depth 60 fits 20000) refl
