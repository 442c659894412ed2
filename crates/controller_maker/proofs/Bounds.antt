-- The bounds of a form's columns.
use Rattle.std.proofs.Common.{◌≡◌, ℕ, zero, suc, ◌+◌, ◌-◌, ◌*◌, ◌/◌, ◌^◌, ◌<◌, ◌≤◌, ℤ, pos, ◌*ℤ◌, ◌≤ℤ◌, List, length, unsigned_abs, FitsSigned, arith, refl, ap, ◌∙◌}
use Rattle.std.specs.Int.{w128}
use Rattle.std.proofs.lemmas.Int.{ints, fits_signed_from_abs, unsigned_abs-mul}
use Rattle.std.proofs.lemmas.Nat.{pow_pos, div_below}
use Rattle.std.proofs.Math.Nat.{add-div_right, mul-le-mul_left, mul-le-mul_right}
use Rattle.integer_algebra.specs.Sums.{at}
use Rattle.integer_algebra.specs.Division.{ceil_div, ceil_of}
use Rattle.integer_algebra.proofs.SizeLaws.{size_same}
use Rattle.mat_int.specs.Row as lists
use Rattle.mat_int.proofs.Indices.{abs_sum_is}
use Rattle.qp_model.proofs.SizeFacts.{greatest_term}
use Rattle.qp_model.specs.form.Form.{Form}
use Rattle.qp_model.specs.form.Columns.{columns, column_size, solve_column, descent_size}
use Rattle.qp_model.specs.form.Quantities.{greatest}
use Rattle.approx_inverse.specs.Inverse.{HasGainSizes}
use Rattle.approx_inverse.specs.declared.inverse.Inverse.{Inverse}

-- where `descent` is within its limit, so is a column times 2^(f+1)
pub column_room : (h : Form) (f i : ℕ) → i < columns h → descent_size h f ≤ 2 ^ 126 → 2 ^ (f + 1) * column_size h i ≤ 2 ^ 126
column_room h f i l room = close _ (2 ^ (f + 1)) (greatest (columns h) (column_size h)) (column_size h i) (2 ^ 126) (greatest_term i (columns h) (column_size h) l) room
  where
    close : (a p s t top : ℕ) → t ≤ s → a + p * s ≤ top → p * t ≤ top
    close a p s t top h k = omega (arith, k, mul-le-mul_left p h)

-- and so is the column itself
pub column_small : (h : Form) (f i : ℕ) → i < columns h → descent_size h f ≤ 2 ^ 126 → column_size h i ≤ 2 ^ 126
column_small h f i l room = close (2 ^ (f + 1)) (column_size h i) (pow_pos (f + 1)) (column_room h f i l room)
  where
    close : (p s : ℕ) → 0 < p → p * s ≤ 2 ^ 126 → s ≤ 2 ^ 126
    close p s h k = let one : 1 ≤ p = omega arith in let g = mul-le-mul_right s one in omega (arith, g)

-- the absolute sum of a list that holds a column
pub sum_is : (h : Form) (i : ℕ) (xs : List ℤ) → length xs ≡ h.entries → ((j : ℕ) → j < length xs → at xs j ≡ solve_column h i j) →
    lists.abs_sum xs ≡ column_size h i
sum_is h i xs e is = abs_sum_is h.entries xs e ∙ size_same h.entries (at xs) (solve_column h i) (λ j l. is j (omega (arith, e)))

-- a quotient of naturals, rounded up as a whole number
pub ceil_of_pos : (a d : ℕ) → 0 < d → ceil_of (pos a) d ≡ pos (ceil_div a d)
ceil_of_pos zero d h =
    let low : 0 / d ≡ 0 = none 0 d (omega arith) h in
    let high : (0 + (d - 1)) / d ≡ 0 = none (0 + (d - 1)) d (omega arith) h in
    rw (low, high) refl
  where
    none : (a d : ℕ) → a < d → 0 < d → a / d ≡ 0
    none a d l h = omega (arith, div_below a d 1 h (omega arith))
ceil_of_pos (suc n) d h =
    let e : suc n + (d - 1) ≡ n + d = omega arith in
    rw (e, add-div_right n h) (ap (λ (k : ℕ). pos k) (more (n / d)))
  where
    more : (k : ℕ) → suc k ≡ k + 1
    more k = omega arith

-- the room for 2^(f+1) times the sum, and the bound
pub bound_fits : (s f : ℕ) (z : ℤ) → z ≡ pos s → 2 ^ (f + 1) * s ≤ 2 ^ 126 → FitsSigned w128 (z *ℤ pos (2 ^ (f + 1)))
bound_fits s f z e h = fits_signed_from_abs w128 (z *ℤ pos (2 ^ (f + 1))) (close (unsigned_abs z) (unsigned_abs (z *ℤ pos (2 ^ (f + 1)))) (2 ^ (f + 1)) s (unsigned_abs-mul z (pos (2 ^ (f + 1)))) (ap (λ (z : ℤ). unsigned_abs z) e) h)
  where
    close : (u v p s : ℕ) → v ≡ u * p → u ≡ s → p * s ≤ 2 ^ 126 → v < 2 ^ 127
    close u v p s e g h = rw (e, g) (omega (arith, h))

pub bound_is : (s f : ℕ) (z floor : ℤ) → z ≡ pos s → pos 1 ≤ℤ floor → ceil_of (z *ℤ pos (2 ^ (f + 1))) (unsigned_abs floor) ≡ pos (ceil_div (2 ^ (f + 1) * s) (unsigned_abs floor))
bound_is s f z floor e h = rw e (ap (λ (n : ℕ). ceil_of (pos n) (unsigned_abs floor)) (turn s (2 ^ (f + 1))) ∙ ceil_of_pos (2 ^ (f + 1) * s) (unsigned_abs floor) (omega (arith, ints)))
  where
    turn : (a b : ℕ) → a * b ≡ b * a
    turn a b = omega arith

-- sizes under other names
pub resized : (v : Inverse) (n k m x y z : ℕ) → n ≡ x → k ≡ y → m ≡ z → HasGainSizes v x y z → HasGainSizes v n k m
resized v n k m x y z e g h sizes = rw (e, g, h) sizes
