-- Systems of one entry.
use Rattle.std.proofs.Common.{◌≡◌, [], ◌∷◌, ℤ, pos, ◌+ℤ◌, ◌-ℤ◌, ◌*ℤ◌, ◌≤ℤ◌, length, arith, refl}
use Rattle.std.proofs.lemmas.Int.{ints}
use Rattle.integer_algebra.specs.Sums.{square}
use Rattle.integer_algebra.proofs.OrderLaws.{le_by, mul_nonneg_z, square_nonneg_z}
use Rattle.integer_algebra.proofs.Quoting.{by_ring, quotes}
use Rattle.mat_int.specs.Matrix.{Matrix, entry_of}
use Rattle.approx_inverse.specs.System.{IsSystem}

pub single_system : (m : Matrix) (h floor : ℤ) → length m.rows ≡ 1 → m.cols ≡ 1 → entry_of m 0 0 ≡ h → pos 1 ≤ℤ floor → floor ≤ℤ h → IsSystem m 1 floor
single_system m h floor rows cols e one low = record {
  rows = rows;
  cols = cols;
  convex = record {
    positive = one;
    symmetric = λ i j l k. (let a : i ≡ 0 = omega arith in let b : j ≡ 0 = omega arith in rw (a, b) refl);
    curved = λ d. curved (entry_of m 0 0) floor (d 0) (below _ _ _ e low);
  };
}
  where
    below : (a h floor : ℤ) → a ≡ h → floor ≤ℤ h → pos 0 ≤ℤ (a -ℤ floor)
    below a h floor e l = omega (arith, ints)

    curved : (a floor d : ℤ) → pos 0 ≤ℤ (a -ℤ floor) → (floor *ℤ (pos 0 +ℤ square d)) ≤ℤ (pos 0 +ℤ d *ℤ (pos 0 +ℤ a *ℤ d))
    curved a floor d h = le_by (mul_nonneg_z (a -ℤ floor) (square d) h (square_nonneg_z d)) (by_ring (a ∷ floor ∷ d ∷ []) (search quotes depth 60 fits 20000) refl)
