-- The products and sums of solutions with the systems that they solve fit.
use Rattle.std.proofs.Common.{◌≡◌, ℕ, ◌+◌, ◌-◌, ◌*◌, ◌^◌, ◌<◌, ◌≤◌, List, ℤ, pos, ◌-ℤ◌, ◌*ℤ◌, ◌≤ℤ◌, unsigned_abs, arith, ap, sym, ◌∙◌, refl}
use Rattle.std.proofs.lemmas.Int.{ints, unsigned_abs-mul}
use Rattle.std.proofs.Math.Nat.{mul-le-mul, mul-le-mul_left, mul-le-mul_right}
use Rattle.integer_algebra.specs.Sums.{total, at}
use Rattle.integer_algebra.specs.Sizes.{size, amount}
use Rattle.integer_algebra.proofs.AmountLaws.{amount_mono, amount_scale}
use Rattle.integer_algebra.proofs.PowerLaws.{pow_positive, two-pow-more}
use Rattle.integer_algebra.proofs.SizeLaws.{at_size, dot_bound, amount_same}
use Rattle.integer_algebra.proofs.VectorLaws.{matrix_scale}
use Rattle.mat_int.specs.Matrix.{Matrix, entry_of}
use Rattle.qp_model.specs.form.Form.{Form}
use Rattle.qp_model.specs.form.Columns.{columns, column_bound, column_size, solve_matrix, solve_column}
use Rattle.qp_model.specs.form.Quantities.{greatest}
use Rattle.qp_model.proofs.SizeFacts.{greatest_term, positive}
use Rattle.condensed_form.specs.Form.{held}
use Rattle.condensed_form.specs.declared.condensed.Condensed.{Condensed}
use Rattle.step_error.proofs.Gains.{below, beyond, same, other}
use Rattle.step_error.proofs.Slopes.{size_factor}
use Rattle.step_error.specs.Gains.{gain_at, missed, missed_by, missed_sum, combined_of, AreSolved}
use Rattle.step_error.proofs.Missed.{missed_le, missed_sum_le}

-- ---- numbers alone
pub through : {a b c : ℕ} → a ≤ b → b ≤ c → a ≤ c
through {a} {b} {c} h k = omega (arith, h, k)

-- the greatest row of the matrix, the greatest entry of a solution, and the greatest column times 2^f
descent_parts : (a b e t : ℕ) → 2 * a * (b + 1) + 2 * t * e ≤ 2 ^ 126 → (a ≤ 2 ^ 125) × (a * b ≤ 2 ^ 125) × (t * e ≤ 2 ^ 125)
descent_parts a b e t h = (omega (arith, h), omega (arith, h), omega (arith, h))

-- a scalar product with numbers that are at most b
product_le : (n b : ℕ) (f g : ℕ → ℤ) → ((l : ℕ) → l < n → unsigned_abs (g l) ≤ b) → amount n (λ l. unsigned_abs (f l) * unsigned_abs (g l)) ≤ size n f * b
product_le n b f g h =
    through (amount_mono n (λ l. unsigned_abs (f l) * unsigned_abs (g l)) (λ l. b * unsigned_abs (f l)) (λ l k. each (unsigned_abs (f l)) (unsigned_abs (g l)) b (h l k)))
    (let e = amount_scale n b (λ l. unsigned_abs (f l)) in omega (arith, e))
  where
    each : (x y b : ℕ) → y ≤ b → x * y ≤ b * x
    each x y b h = omega (arith, mul-le-mul_left x h)

module _ (c : Condensed) (p_mat : Matrix) (t : List ℤ) (w_mat : Matrix) (f state top : ℕ) (s : AreSolved c p_mat t w_mat f state top) where
  abbrev h : Form
  h = held c

  abbrev x : ℕ → ℕ → ℤ
  x = gain_at p_mat t w_mat

  abbrev limit : ℕ
  limit = unsigned_abs c.limit_den

  limit_is : c.limit_den ≡ pos limit
  limit_is = read c.limit_den s.systems.limit_den
    where
      read : (z : ℤ) → pos 1 ≤ℤ z → z ≡ pos (unsigned_abs z)
      read z h = omega (arith, ints)

  limit_some : 1 ≤ limit
  limit_some = positive c.limit_den s.systems.limit_den

  parts : (greatest h.entries (λ j. size h.entries (solve_matrix h j)) ≤ 2 ^ 125) ×
      (greatest h.entries (λ j. size h.entries (solve_matrix h j)) * greatest (columns h) (column_bound h f) ≤ 2 ^ 125) ×
      (2 ^ f * greatest (columns h) (column_size h) ≤ 2 ^ 125)
  parts = descent_parts _ _ _ (2 ^ f) (rw (two-pow-more f) at s.room)

  row_le : (j : ℕ) → j < h.entries → size h.entries (solve_matrix h j) ≤ greatest h.entries (λ j. size h.entries (solve_matrix h j))
  row_le j l = greatest_term j h.entries (λ j. size h.entries (solve_matrix h j)) l

  -- ---- the matrix
  pub diagonal_small : (j : ℕ) → j < h.entries → unsigned_abs (solve_matrix h j j) ≤ 2 ^ 125
  diagonal_small j l = through (at_size j h.entries (solve_matrix h j) l) (through (row_le j l) parts.0)

  row_is : (j : ℕ) → size h.entries (solve_matrix h j) ≡ limit * size h.entries (entry_of c.hess j)
  row_is j = size_factor h.entries limit c.limit_den (entry_of c.hess j) limit_is

  -- ---- a row of it with a solution
  terms_scaled : (i j : ℕ) → i < columns h → j < h.entries → limit * amount h.entries (λ l. unsigned_abs (entry_of c.hess j l) * unsigned_abs (x i l)) ≤ 2 ^ 125
  terms_scaled i j l m =
      let bound = greatest (columns h) (column_bound h f) in
      let each = product_le h.entries bound (entry_of c.hess j) (x i) (λ k o. through (s.within i k l o) (greatest_term i (columns h) (column_bound h f) l)) in
      closed limit _ _ _ bound each (row_is j) (row_le j m) parts.1
    where
      closed : (k a z r b : ℕ) {y : ℕ} → a ≤ z * b → y ≡ k * z → y ≤ r → r * b ≤ 2 ^ 125 → k * a ≤ 2 ^ 125
      closed k a z r b {y} h e o m = omega (arith, mul-le-mul_left k h, mul-le-mul_right b (rw e at o), m)

  pub terms_small : (i j : ℕ) → i < columns h → j < h.entries → amount h.entries (λ l. unsigned_abs (entry_of c.hess j l) * unsigned_abs (x i l)) < 2 ^ 127
  terms_small i j l m = closed limit _ limit_some (terms_scaled i j l m)
    where
      closed : (k a : ℕ) → 1 ≤ k → k * a ≤ 2 ^ 125 → a < 2 ^ 127
      closed k a h o = omega (arith, mul-le-mul_right a h, o)

  pub solved_small : (i j : ℕ) → i < columns h → j < h.entries → unsigned_abs (c.limit_den *ℤ total h.entries (λ l. entry_of c.hess j l *ℤ x i l)) ≤ 2 ^ 125
  solved_small i j l m =
      rw (unsigned_abs-mul c.limit_den (total h.entries (λ l. entry_of c.hess j l *ℤ x i l)))
      (through (mul-le-mul_left limit (dot_bound h.entries (entry_of c.hess j) (x i))) (terms_scaled i j l m))

  -- ---- the columns
  pub column_small : (i j : ℕ) → i < columns h → j < h.entries → 2 ^ f * unsigned_abs (solve_column h i j) ≤ 2 ^ 125
  column_small i j l m =
      through (mul-le-mul_left (2 ^ f) (through (at_size j h.entries (solve_column h i) m) (greatest_term i (columns h) (column_size h) l))) parts.2

  pub shifted_small : (i j : ℕ) → i < columns h → j < h.entries → unsigned_abs (solve_column h i j *ℤ pos (2 ^ f)) ≤ 2 ^ 125
  shifted_small i j l m = rw (unsigned_abs-mul (solve_column h i j) (pos (2 ^ f))) (turned _ (2 ^ f) (column_small i j l m))
    where
      turned : (a k : ℕ) → k * a ≤ 2 ^ 125 → a * k ≤ 2 ^ 125
      turned a k h = omega (arith, h)

  pub number_small : (i j : ℕ) → i < columns h → j < h.entries → unsigned_abs (solve_column h i j) ≤ 2 ^ 126
  number_small i j l m = closed (2 ^ f) _ (pow_positive 2 f (omega arith)) (column_small i j l m)
    where
      closed : (k a : ℕ) → 1 ≤ k → k * a ≤ 2 ^ 125 → a ≤ 2 ^ 126
      closed k a h o = omega (arith, mul-le-mul_right a h, o)

  -- ---- what they miss
  pub missed_is : (i j : ℕ) → unsigned_abs (c.limit_den *ℤ total h.entries (λ l. entry_of c.hess j l *ℤ x i l) -ℤ solve_column h i j *ℤ pos (2 ^ f)) ≡ missed h f x i j
  missed_is i j = closed _ (solve_column h i j) (pos (2 ^ f)) _ (sym (matrix_scale h.entries c.limit_den (entry_of c.hess) (x i) j))
    where
      closed : (a b t e : ℤ) → a ≡ e → unsigned_abs (a -ℤ b *ℤ t) ≡ unsigned_abs (e -ℤ t *ℤ b)
      closed a b t e h = let g : b *ℤ t ≡ t *ℤ b = omega (arith, ints) in rw (h, g) refl

  pub half_each : (i j : ℕ) → i < columns h → j < h.entries → 2 * missed h f x i j ≤ unsigned_abs (solve_matrix h j j)
  half_each i j l m = missed_le h f x i j (s.good i l) m

  -- all of them, at states and multipliers as far from 0 as they get
  pub sum_small : (j : ℕ) → j < h.entries → unsigned_abs (solve_matrix h j j) * combined_of h state top ≤ 2 ^ 126 → missed_sum h f x state top j ≤ 2 ^ 125
  sum_small j l room = half (missed_sum_le h f x state top j (λ i k. half_each i j k l)) room
    where
      half : {a b : ℕ} → 2 * a ≤ b → b ≤ 2 ^ 126 → a ≤ 2 ^ 125
      half {a} {b} h k = omega (arith, h, k)

  pub states_room : (j : ℕ) → j < h.entries → h.states * unsigned_abs (solve_matrix h j j) ≤ 2 ^ 128
  states_room j l = through (mul-le-mul s.systems.few (diagonal_small j l)) (omega arith)

  pub rows_room : (j : ℕ) → unsigned_abs (solve_matrix h j j) * combined_of h state top ≤ 2 ^ 126 → h.rows * unsigned_abs (solve_matrix h j j) ≤ 2 ^ 128
  rows_room j room = closed h.states state h.rows top (unsigned_abs (solve_matrix h j j)) s.some room
    where
      closed : (n x m y d : ℕ) → 1 ≤ y → d * (n * x + 1 + m * y) ≤ 2 ^ 126 → m * d ≤ 2 ^ 128
      closed n x m y d h k = omega (arith, mul-le-mul_left (m * d) h, k)

-- ---- sums over columns, as the code counts them
pub states_read : (h : Form) (f : ℕ) (x : ℕ → ℕ → ℤ) (n j m : ℕ) → m ≡ missed_by h f x 0 n j → n ≡ h.states → m ≡ amount h.states (λ i. missed h f x i j)
states_read h f x n j m e g = e ∙ amount_same n _ _ (λ i l. let z : 0 + i ≡ i = omega arith in rw z refl) ∙ ap (λ k. amount k (λ i. missed h f x i j)) g

pub own_read : (h : Form) (f : ℕ) (x : ℕ → ℕ → ℤ) (n j m : ℕ) → m ≡ missed h f x n j → n ≡ h.states → m ≡ missed h f x h.states j
own_read h f x n j m e g = e ∙ ap (λ i. missed h f x i j) g

pub rows_read : (h : Form) (f : ℕ) (x : ℕ → ℕ → ℤ) (n k j m : ℕ) → m ≡ missed_by h f x (n + 1) k j → n ≡ h.states → k ≡ h.rows → m ≡ amount h.rows (λ i. missed h f x (h.states + 1 + i) j)
rows_read h f x n k j m e g o = e ∙ (λ t. missed_by h f x (g t + 1) (o t) j)

-- ---- a column, part by part
pub state_number : (c : Condensed) (i j : ℕ) → i < c.lin.cols → solve_column (held c) i j ≡ c.limit_den *ℤ entry_of c.lin j i
state_number c i j l = below i c.lin.cols _ _ l

pub own_number : (c : Condensed) (i j : ℕ) → i ≡ c.lin.cols → solve_column (held c) i j ≡ c.limit_den *ℤ at c.off.items j
own_number c i j e = beyond i c.lin.cols _ _ (omega (arith, e)) ∙ same i c.lin.cols _ _ e

pub row_number : (c : Condensed) (i j : ℕ) → c.lin.cols < i → solve_column (held c) i j ≡ (held c).row_factor *ℤ entry_of c.g (i - (c.lin.cols + 1)) j
row_number c i j l = beyond i c.lin.cols _ _ (omega (arith, l)) ∙ other i c.lin.cols _ _ l
