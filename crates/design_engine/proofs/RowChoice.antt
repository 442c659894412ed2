-- Multipliers at one row alone.
use Rattle.std.proofs.Common.{◌≡◌, ℕ, zero, suc, Bool, true, false, ◌<◌, ℤ, pos, ◌*ℤ◌, ◌≤ℤ◌, nat_eq, if◌then◌else◌, arith, refl, ◌∙◌}
use Rattle.std.proofs.lemmas.Int.{ints}
use Rattle.std.specs.Int.Signed.{≤ℤ_refl}
use Rattle.integer_algebra.specs.Sums.{total, dot, square, none}
use Rattle.integer_algebra.proofs.SumLaws.{total_same, total_zero, Greatest, greatest}
use Rattle.integer_algebra.proofs.BlockLaws.{choose_times, total_single}
use Rattle.qp_model.specs.method.Dual.{InBox}

-- z at row k, and 0 at the others
abbrev pub at_row : ℕ → ℤ → ℕ → ℤ
at_row k z i = if nat_eq i k then z else pos 0

-- it drives that row
pub dot_single : (n k : ℕ) (z : ℤ) (g : ℕ → ℤ) → k < n → dot n (at_row k z) g ≡ z *ℤ g k
dot_single n k z g h = total_same n _ _ (λ i l. choose_times (nat_eq i k) z (g i)) ∙ total_single n k (λ i. z *ℤ g i) h

-- and moves by its weight alone
pub squares_single : (n k : ℕ) (weight : ℕ → ℤ) (z : ℤ) → k < n → total n (λ i. weight i *ℤ square (at_row k z i)) ≡ weight k *ℤ square z
squares_single n k weight z h = total_same n _ _ (λ i l. choose_square (nat_eq i k) (weight i) z) ∙ total_single n k (λ i. weight i *ℤ square z) h
  where
    choose_square : (b : Bool) (w z : ℤ) → w *ℤ square (if b then z else pos 0) ≡ (if b then w *ℤ square z else pos 0)
    choose_square true w z = refl
    choose_square false w z = omega (arith, ints)

pub row_in_box : (n k : ℕ) (z : ℤ) → pos 0 ≤ℤ z → InBox n z (at_row k z)
row_in_box n k z h = record { low = λ i l. low (nat_eq i k) z h; high = λ i l. high (nat_eq i k) z h }
  where
    low : (b : Bool) (z : ℤ) → pos 0 ≤ℤ z → pos 0 ≤ℤ (if b then z else pos 0)
    low true z h = h
    low false z h = ≤ℤ_refl (pos 0)

    high : (b : Bool) (z : ℤ) → pos 0 ≤ℤ z → (if b then z else pos 0) ≤ℤ z
    high true z h = ≤ℤ_refl z
    high false z h = h

-- no multipliers
pub dot_none : (n : ℕ) (g : ℕ → ℤ) → dot n none g ≡ pos 0
dot_none n g = total_same n _ _ (λ i l. nothing (g i)) ∙ total_zero n
  where
    nothing : (z : ℤ) → pos 0 *ℤ z ≡ pos 0
    nothing z = omega (arith, ints)

pub squares_none : (n : ℕ) (weight : ℕ → ℤ) → total n (λ i. weight i *ℤ square (none i)) ≡ pos 0
squares_none n weight = total_same n _ _ (λ i l. nothing (weight i)) ∙ total_zero n
  where
    nothing : (z : ℤ) → z *ℤ pos 0 ≡ pos 0
    nothing z = omega (arith, ints)

pub none_in_box : (n : ℕ) (z : ℤ) → pos 0 ≤ℤ z → InBox n z none
none_in_box n z h = record { low = λ i l. ≤ℤ_refl (pos 0); high = λ i l. h }

-- the row with the greatest residual, where there is one
pub greatest_row : (n : ℕ) (f : ℕ → ℤ) (i : ℕ) → i < n → Greatest n f
greatest_row zero f i h = absurd (omega arith)
greatest_row (suc n) f i h = greatest n f
