-- The other entries of a row.
use Rattle.std.proofs.Common.{◌≡◌, ℕ, ◌<◌, Bool, true, false, nat_eq, if◌then◌else◌, ℤ, pos, ◌+ℤ◌, unsigned_abs, arith, ap, sym, ◌∙◌}
use Rattle.std.proofs.lemmas.Int.{ints}
use Rattle.integer_algebra.specs.Bounds.{absolute}
use Rattle.integer_algebra.specs.Sizes.{size}
use Rattle.integer_algebra.specs.Matrices.{weight, off_diagonal_sum}
use Rattle.integer_algebra.proofs.SumLaws.{total_same, total_add}
use Rattle.integer_algebra.proofs.BlockLaws.{total_single}
use Rattle.integer_algebra.proofs.SizeLaws.{total_amount}

-- the other entries of a row and the one on the diagonal, in absolute values, are together the size of the row
pub others_and_own : (n : ℕ) (a : ℕ → ℕ → ℤ) (i : ℕ) → i < n → off_diagonal_sum n a i +ℤ absolute (a i i) ≡ pos (size n (a i))
others_and_own n a i h =
    ap (λ (z : ℤ). off_diagonal_sum n a i +ℤ z) (sym (total_single n i (λ j. absolute (a i j)) h)) ∙
    sym (total_add n (weight a i) (λ j. if nat_eq j i then absolute (a i j) else pos 0)) ∙
    total_same n _ _ (λ j l. chosen (nat_eq j i) (absolute (a i j))) ∙
    total_amount n (λ j. unsigned_abs (a i j))
  where
    chosen : (b : Bool) (x : ℤ) → (if b then pos 0 else x) +ℤ (if b then x else pos 0) ≡ x
    chosen true x = omega (arith, ints)
    chosen false x = omega (arith, ints)
