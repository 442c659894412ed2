-- Sums along lists as sums over indices.
use Rattle.std.proofs.Common.{◌≡◌, ℕ, zero, suc, ◌+◌, ◌*◌, ◌≤◌, ℤ, ◌+ℤ◌, ◌*ℤ◌, List, length, take, unsigned_abs, refl, sym, ap, ◌∙◌, arith}
use Rattle.std.proofs.Math.Seq.{take-length}
use Rattle.integer_algebra.specs.Sums.{dot, at}
use Rattle.integer_algebra.specs.Sizes.{amount, size}
use Rattle.mat_int.specs.Row as lists
use Rattle.mat_int.specs.Matrix.{Matrix, row_of, entry_of}
use Rattle.mat_int.proofs.Dots.{dot-take_suc, abs_dot-take_suc, abs_sum-take_suc}

-- the first i of both lists
pub dot-take_is : (i : ℕ) (xs ys : List ℤ) → i ≤ length xs → i ≤ length ys → lists.list_dot (take i xs) (take i ys) ≡ dot i (at xs) (at ys)
dot-take_is zero xs ys p q = refl
dot-take_is (suc i) xs ys p q =
    dot-take_suc xs ys i (omega arith) (omega arith) ∙ ap (λ (z : ℤ). z +ℤ at xs i *ℤ at ys i) (dot-take_is i xs ys (omega arith) (omega arith))

-- two lists of n
pub dot_is : (n : ℕ) (xs ys : List ℤ) → length xs ≡ n → length ys ≡ n → lists.list_dot xs ys ≡ dot n (at xs) (at ys)
dot_is n xs ys h k =
    let whole : lists.list_dot (take (length xs) xs) (take (length xs) ys) ≡ lists.list_dot xs ys = rw (take-length xs, h, ← k, take-length ys) refl in
    rw (← h) (sym whole ∙ dot-take_is (length xs) xs ys (omega arith) (omega arith))

-- the first i of both lists
pub abs_dot-take_is : (i : ℕ) (xs ys : List ℤ) → i ≤ length xs → i ≤ length ys →
    lists.abs_dot (take i xs) (take i ys) ≡ amount i (λ k. unsigned_abs (at xs k) * unsigned_abs (at ys k))
abs_dot-take_is zero xs ys p q = refl
abs_dot-take_is (suc i) xs ys p q =
    abs_dot-take_suc xs ys i (omega arith) (omega arith) ∙
    ap (λ (z : ℕ). z + unsigned_abs (at xs i) * unsigned_abs (at ys i)) (abs_dot-take_is i xs ys (omega arith) (omega arith))

-- two lists of n
pub abs_dot_is : (n : ℕ) (xs ys : List ℤ) → length xs ≡ n → length ys ≡ n → lists.abs_dot xs ys ≡ amount n (λ k. unsigned_abs (at xs k) * unsigned_abs (at ys k))
abs_dot_is n xs ys h k =
    let whole : lists.abs_dot (take (length xs) xs) (take (length xs) ys) ≡ lists.abs_dot xs ys = rw (take-length xs, h, ← k, take-length ys) refl in
    rw (← h) (sym whole ∙ abs_dot-take_is (length xs) xs ys (omega arith) (omega arith))

-- the first i of a list
pub abs_sum-take_is : (i : ℕ) (xs : List ℤ) → i ≤ length xs → lists.abs_sum (take i xs) ≡ size i (at xs)
abs_sum-take_is zero xs p = refl
abs_sum-take_is (suc i) xs p = abs_sum-take_suc xs i (omega arith) ∙ ap (λ (z : ℕ). z + unsigned_abs (at xs i)) (abs_sum-take_is i xs (omega arith))

-- a list of n
pub abs_sum_is : (n : ℕ) (xs : List ℤ) → length xs ≡ n → lists.abs_sum xs ≡ size n (at xs)
abs_sum_is n xs h =
    let whole : lists.abs_sum (take (length xs) xs) ≡ lists.abs_sum xs = rw (take-length xs) refl in
    rw (← h) (sym whole ∙ abs_sum-take_is (length xs) xs (omega arith))

-- ---- rows of a matrix
-- the absolute sum of a row of n
pub row_size : (n : ℕ) (m : Matrix) (i : ℕ) → length (row_of m i) ≡ n → lists.abs_sum (row_of m i) ≡ size n (entry_of m i)
row_size n m i h = abs_sum_is n (row_of m i) h
