-- The quantities of several columns, and of one.
use Rattle.std.proofs.Common.{◌≡◌, inl, inr, ℕ, zero, suc, ◌+◌, ◌-◌, ◌*◌, ◌/◌, ◌^◌, ◌<◌, ◌≤◌, ℤ, pos, ◌≤ℤ◌, unsigned_abs, arith, refl}
use Rattle.std.proofs.lemmas.Int.{ints}
use Rattle.std.proofs.lemmas.Bool.{cases_lt}
use Rattle.std.proofs.Math.Nat.{mul-le-mul_left, mul-le-mul_right, mul-div-le, pow-le-pow_right}
use Rattle.integer_algebra.specs.Division.{ceil_div}
use Rattle.integer_algebra.specs.Sizes.{size}
use Rattle.qp_model.specs.form.Quantities.{greatest}
use Rattle.qp_model.proofs.SizeFacts.{greatest_same, greatest_term}
use Rattle.integer_algebra.proofs.SizeLaws.{size_same}
use Rattle.qp_model.specs.form.Form.{Form}
use Rattle.qp_model.specs.form.Columns.{columns, column_bound, column_size, descent_size, solve_matrix, solve_column}
use Rattle.approx_inverse.specs.DescentSize.{greatest_row, entry_bound, descent_sum, descent_of_column}

-- ---- monotone
div_mono : (a b d : ℕ) → 0 < d → a ≤ b → a / d ≤ b / d
div_mono a b d p h = elim (cases_lt (b / d) (a / d)) [
  | inl l ↦ absurd (let g = mul-le-mul_left d (over (b / d) (a / d) l) in omega (arith, g, mul-div-le a d))
  | inr l ↦ l
]
  where
    over : (x y : ℕ) → x < y → x + 1 ≤ y
    over x y h = omega arith

pub ceil_mono : (a b d : ℕ) → 0 < d → a ≤ b → ceil_div a d ≤ ceil_div b d
ceil_mono a b d p h = div_mono (a + (d - 1)) (b + (d - 1)) d p (omega arith)

pub sum_mono : (row e1 e2 c1 c2 f : ℕ) → e1 ≤ e2 → c1 ≤ c2 → descent_sum row e1 c1 f ≤ descent_sum row e2 c2 f
sum_mono row e1 e2 c1 c2 f h k = omega (arith, mul-le-mul_left (2 * row) h, mul-le-mul_left (2 ^ (f + 1)) k)

-- a column among others
pub column_among : (h : Form) (f i : ℕ) → i < columns h → descent_of_column h.entries (solve_matrix h) (solve_column h i) h.floor f ≤ descent_size h f
column_among h f i l =
    sum_mono (greatest_row h.entries h.entries (solve_matrix h)) _ _ _ _ f (greatest_term i (columns h) (column_bound h f) l) (greatest_term i (columns h) (column_size h) l)

pub wide_column : (h : Form) (f i : ℕ) → i < columns h → 2 ^ 126 < column_size h i → 2 ^ 126 < descent_size h f
wide_column h f i l w =
    close (2 * greatest_row h.entries h.entries (solve_matrix h) * (greatest (columns h) (column_bound h f) + 1)) (2 ^ (f + 1)) (greatest (columns h) (column_size h))
    (column_size h i) (2 ^ 126) (one-le-pow (f + 1)) (greatest_term i (columns h) (column_size h) l) w
  where
    one-le-pow : (k : ℕ) → 1 ≤ 2 ^ k
    one-le-pow k = pow-le-pow_right {n = 2} (omega arith) (zero-le k)
      where
        zero-le : (k : ℕ) → 0 ≤ k
        zero-le k = omega arith

    close : (a p s t top : ℕ) → 1 ≤ p → t ≤ s → top < t → top < a + p * s
    close a p s t top h k w = omega (arith, mul-le-mul_right s h)

-- ---- all of them
-- one is the greatest
greatest_at : (n : ℕ) (f : ℕ → ℕ) → 0 < n → (i : ℕ) × ((i < n) × (greatest n f ≡ f i))
greatest_at zero f h = absurd (omega arith)
greatest_at (suc zero) f h = (0, (omega arith, omega arith))
greatest_at (suc (suc n)) f h = let g = greatest_at (suc n) f (omega arith) in elim (cases_lt (greatest (suc n) f) (f (suc n))) [
  | inl l ↦ (suc n, (omega arith, omega arith))
  | inr l ↦ (g.0, (omega (arith, g.1.0), omega (arith, g.1.1)))
]

-- the greatest bound is the bound of the greatest
greatest_bound : (n count : ℕ) (cs : ℕ → ℕ → ℤ) (floor : ℤ) (f : ℕ) (i : ℕ) → 0 < unsigned_abs floor → ((k : ℕ) → k < count → size n (cs k) ≤ size n (cs i)) →
    greatest count (λ k. entry_bound n (cs k) floor f) ≤ entry_bound n (cs i) floor f
greatest_bound n zero cs floor f i p most = omega arith
greatest_bound n (suc count) cs floor f i p most = omega (
  arith,
  greatest_bound n count cs floor f i p (λ k l. most k (omega arith)),
  ceil_mono (2 ^ (f + 1) * size n (cs count)) (2 ^ (f + 1) * size n (cs i)) (unsigned_abs floor) p (mul-le-mul_left (2 ^ (f + 1)) (most count (omega arith))),
)

-- where each column fits, all do
pub all_fit : (h : Form) (f : ℕ) → pos 1 ≤ℤ h.floor → ((i : ℕ) → i < columns h → descent_of_column h.entries (solve_matrix h) (solve_column h i) h.floor f ≤ 2 ^ 126) →
    descent_size h f ≤ 2 ^ 126
all_fit h f p fit =
    let g = greatest_at (columns h) (column_size h) (some h.states h.rows) in
    let most : (k : ℕ) → k < columns h → column_size h k ≤ column_size h g.0 = λ k l. omega (arith, greatest_term k (columns h) (column_size h) l, g.1.1) in
    let within = sum_mono (greatest_row h.entries h.entries (solve_matrix h)) _ _ _ _ f
    (greatest_bound h.entries (columns h) (solve_column h) h.floor f g.0 (positive h.floor p) most) (equal_le g.1.1) in
    omega (arith, within, fit g.0 g.1.0)
  where
    some : (a b : ℕ) → 0 < a + 1 + b
    some a b = omega arith

    equal_le : {a b : ℕ} → a ≡ b → a ≤ b
    equal_le {a} {b} e = omega arith

    positive : (z : ℤ) → pos 1 ≤ℤ z → 0 < unsigned_abs z
    positive z h = omega (arith, ints)

-- ---- under other names
pub column_same : (n : ℕ) (h k : ℕ → ℕ → ℤ) (c d : ℕ → ℤ) (floor : ℤ) (f : ℕ) → ((i j : ℕ) → i < n → j < n → h i j ≡ k i j) → ((j : ℕ) → j < n → c j ≡ d j) →
    descent_of_column n h c floor f ≡ descent_of_column n k d floor f
column_same n h k c d floor f e g =
    rw (greatest_same n (λ i. size n (h i)) (λ i. size n (k i)) (λ i l. size_same n (h i) (k i) (λ j m. e i j l m)), size_same n c d g) refl
