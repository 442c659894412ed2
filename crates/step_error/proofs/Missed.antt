-- What good solutions miss is at most half the diagonal of their matrix, and so is bounded all that it comes to.
use Rattle.std.proofs.Common.{ℕ, zero, suc, ◌+◌, ◌*◌, ◌^◌, ◌<◌, ◌≤◌, ℤ, pos, ◌-ℤ◌, ◌*ℤ◌, ◌≤ℤ◌, unsigned_abs, arith}
use Rattle.std.proofs.lemmas.Int.{ints}
use Rattle.std.proofs.Math.Nat.{mul-le-mul_left}
use Rattle.integer_algebra.specs.Sums.{image}
use Rattle.integer_algebra.specs.Sizes.{amount}
use Rattle.qp_model.specs.form.Form.{Form}
use Rattle.qp_model.specs.form.Columns.{columns, solve_matrix, solve_column}
use Rattle.qp_model.specs.form.GoodSolution.{IsGood}
use Rattle.step_error.specs.Gains.{missed, missed_by, missed_sum, combined_of}

-- of one system
pub missed_le : (h : Form) (f : ℕ) (x : ℕ → ℕ → ℤ) (i j : ℕ) → IsGood h.entries (solve_matrix h) f (solve_column h i) (x i) → j < h.entries →
    2 * missed h f x i j ≤ unsigned_abs (solve_matrix h j j)
missed_le h f x i j good l = half (image h.entries (solve_matrix h) (x i) j) (pos (2 ^ f) *ℤ solve_column h i j) (solve_matrix h j j) (good j l).0 (good j l).1
  where
    half : (a b h : ℤ) → (pos 2 *ℤ (a -ℤ b)) ≤ℤ h → (pos 2 *ℤ (b -ℤ a)) ≤ℤ h → 2 * unsigned_abs (a -ℤ b) ≤ unsigned_abs h
    half a b h k o = omega (arith, ints, k, o)

-- of so many numbers
halves : (n t : ℕ) (g : ℕ → ℕ) → ((i : ℕ) → i < n → 2 * g i ≤ t) → 2 * amount n g ≤ n * t
halves zero t g h = omega arith
halves (suc n) t g h = omega (arith, halves n t g (λ i l. h i (omega (arith, l))), h n (omega arith))

-- of so many systems
pub missed_by_le : (h : Form) (f : ℕ) (x : ℕ → ℕ → ℤ) (first n j : ℕ) → ((i : ℕ) → i < n → 2 * missed h f x (first + i) j ≤ unsigned_abs (solve_matrix h j j)) →
    2 * missed_by h f x first n j ≤ n * unsigned_abs (solve_matrix h j j)
missed_by_le h f x first n j each = halves n (unsigned_abs (solve_matrix h j j)) (λ i. missed h f x (first + i) j) each

-- of all, in the gradient
pub missed_sum_le : (h : Form) (f : ℕ) (x : ℕ → ℕ → ℤ) (state top j : ℕ) → ((i : ℕ) → i < columns h → 2 * missed h f x i j ≤ unsigned_abs (solve_matrix h j j)) →
    2 * missed_sum h f x state top j ≤ unsigned_abs (solve_matrix h j j) * combined_of h state top
missed_sum_le h f x state top j each =
    summed state top h.states h.rows (unsigned_abs (solve_matrix h j j)) _ _ _
    (halves h.states (unsigned_abs (solve_matrix h j j)) (λ i. missed h f x i j) (λ i l. each i (omega (arith, l)))) (each h.states (omega arith))
    (halves h.rows (unsigned_abs (solve_matrix h j j)) (λ i. missed h f x (h.states + 1 + i) j) (λ i l. each (h.states + 1 + i) (omega (arith, l))))
  where
    summed : (b y n m t a o e : ℕ) → 2 * a ≤ n * t → 2 * o ≤ t → 2 * e ≤ m * t → 2 * (b * a + o + y * e) ≤ t * (n * b + 1 + m * y)
    summed b y n m t a o e h k l = omega (arith, mul-le-mul_left b h, k, mul-le-mul_left y l)
