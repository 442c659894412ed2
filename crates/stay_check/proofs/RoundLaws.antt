-- Rounding to the nearest keeps the order of fractions.
use Rattle.std.proofs.Common.{ℕ, ◌<◌, [], ◌∷◌, ℤ, pos, ◌+ℤ◌, ◌*ℤ◌, ◌≤ℤ◌, ◌<ℤ◌, arith, refl}
use Rattle.std.proofs.lemmas.Int.{ints, by_lt_z}
use Rattle.integer_algebra.specs.Division.{round_of}
use Rattle.integer_algebra.proofs.DivisionLaws.{round_of_bounds}
use Rattle.integer_algebra.proofs.OrderLaws.{add-le-add_z, le_by, le_of_lt_z, mul-le-mul_left_z, mul-le-mul_right_z, cancel-le_z}
use Rattle.integer_algebra.proofs.Quoting.{by_ring, quotes}

-- x / m is at most y / n, and so are the nearest whole numbers
pub round_mono : (x y : ℤ) (m n : ℕ) → 0 < m → 0 < n → (x *ℤ pos n) ≤ℤ (y *ℤ pos m) → round_of x m ≤ℤ round_of y n
round_mono x y m n h k l =
    close (round_of x m) (round_of y n) x y (pos m) (pos n) (omega (arith, ints)) (omega (arith, ints)) (round_of_bounds x m h).0 (round_of_bounds y n k).1 l
  where
    clash : (p k n y : ℤ) → (p +ℤ n) ≤ℤ k → (pos 2 *ℤ k) ≤ℤ (pos 2 *ℤ y +ℤ n) → (pos 2 *ℤ y +ℤ n) <ℤ (pos 2 *ℤ p +ℤ pos 2 *ℤ n) → ⊥
    clash p k n y h l m = omega (arith, ints)

    step : (r s n : ℤ) → pos 0 <ℤ n → s <ℤ r → (s *ℤ n +ℤ n) ≤ℤ (r *ℤ n)
    step r s n p l =
        let m : ((s +ℤ pos 1) *ℤ n) ≤ℤ (r *ℤ n) = mul-le-mul_right_z n (le_of_lt_z p) (omega (arith, ints)) in
        le_by m (by_ring (r ∷ s ∷ n ∷ []) (search quotes depth 60 fits 20000) refl)

    close : (r s x y m n : ℤ) → pos 0 <ℤ m → pos 0 <ℤ n → (pos 2 *ℤ (r *ℤ m)) ≤ℤ (pos 2 *ℤ x +ℤ m) →
        (pos 2 *ℤ y +ℤ n) <ℤ (pos 2 *ℤ (s *ℤ n) +ℤ pos 2 *ℤ n) → (x *ℤ n) ≤ℤ (y *ℤ m) → r ≤ℤ s
    close r s x y m n p o a b l =
        let up : (m *ℤ (pos 2 *ℤ (r *ℤ n))) ≤ℤ (m *ℤ (pos 2 *ℤ y +ℤ n)) =
        le_by (add-le-add_z (mul-le-mul_right_z n (le_of_lt_z o) a) (mul-le-mul_left_z (pos 2) (omega (arith, ints)) l))
        (by_ring (r ∷ x ∷ y ∷ m ∷ n ∷ []) (search quotes depth 60 fits 20000) refl) in
        by_lt_z s r (λ less. absurd (clash (s *ℤ n) (r *ℤ n) n y (step r s n o less) (cancel-le_z m _ _ p up) b)) (λ le. le)
