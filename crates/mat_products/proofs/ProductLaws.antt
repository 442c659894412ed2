-- Products of matrices by their entries.
use Rattle.std.proofs.Common.{◌≡◌, ◌⊎◌, inl, inr, ℕ, zero, suc, ◌<◌, ◌≤◌, ◌^◌, ◌*◌, ℤ, pos, ◌*ℤ◌, List, [], length, map, get_or, unsigned_abs, arith, ap, ap₂, sym, ◌∙◌}
use Rattle.std.specs.Prelude.{All}
use Rattle.std.proofs.Math.Nat.{mul_comm, mul_assoc, mul-le-mul_left}
use Rattle.std.proofs.lemmas.Bool.{cases_lt}
use Rattle.std.proofs.lemmas.Int.{unsigned_abs-mul}
use Rattle.std.proofs.lemmas.List.{get_or-map, length-map}
use Rattle.std.proofs.lemmas.List.Elements.{All-map, All-from_get_or}
use Rattle.integer_algebra.specs.Matrices.{matrix_product, matrix_product_size}
use Rattle.integer_algebra.proofs.RingLaws.{mul_assoc_z}
use Rattle.integer_algebra.proofs.SumLaws.{total_same}
use Rattle.integer_algebra.proofs.SizeLaws.{amount_same, amount_term}
use Rattle.integer_algebra.proofs.VectorLaws.{dot_comm}
use Rattle.mat_int.specs.Row as lists
use Rattle.mat_products.specs.Gram.{weighted_gram_matrix, weighted_gram_size}
use Rattle.mat_int.specs.Matrix.{Matrix, row_of, entry_of, transpose_of, times, HasEntries, AllFit, SomeIsWide}
use Rattle.mat_int.proofs.Indices.{dot_is, abs_dot_is}

-- ---- products of rows
module _ (a b : Matrix) (same : a.cols ≡ b.cols) (even_a : All (λ row. length row ≡ a.cols) a.rows) (even_b : All (λ row. length row ≡ b.cols) b.rows) where
  -- the length of rows i of a and j of b
  long_a : (i : ℕ) → i < length a.rows → length (row_of a i) ≡ a.cols
  long_a i h = even_a i [] h

  long_b : (j : ℕ) → j < length b.rows → length (row_of b j) ≡ a.cols
  long_b j h = even_b j [] h ∙ sym same

  -- the product of row i of a and row j of b is an entry of a * b'
  product_of_rows : (i j : ℕ) → i < length a.rows → j < length b.rows → lists.list_dot (row_of b j) (row_of a i) ≡ matrix_product a.cols (entry_of a) (transpose_of b) i j
  product_of_rows i j p q = dot_is a.cols (row_of b j) (row_of a i) (long_b j q) (long_a i p) ∙ dot_comm a.cols (entry_of b j) (entry_of a i)

  -- and so is its absolute sum
  size_of_rows : (i j : ℕ) → i < length a.rows → j < length b.rows → lists.abs_dot (row_of b j) (row_of a i) ≡ matrix_product_size a.cols (entry_of a) (transpose_of b) i j
  size_of_rows i j p q =
      abs_dot_is a.cols (row_of b j) (row_of a i) (long_b j q) (long_a i p) ∙
      amount_same a.cols _ _ (λ k l. mul_comm (unsigned_abs (entry_of b j k)) (unsigned_abs (entry_of a i k)))

  -- the matrix of all these products
  pub products_are : (m : Matrix) → m.cols ≡ length b.rows → m.rows ≡ map (times b) a.rows →
      HasEntries (length a.rows) (length b.rows) (matrix_product a.cols (entry_of a) (transpose_of b)) m
  products_are m e f = record {
    rows = ap length f ∙ length-map a.rows (times b);
    cols = e;
    even = rw f (All-map (λ row. length row ≡ length b.rows) (times b) a.rows (λ k d h. length-map b.rows (λ row. lists.list_dot row (get_or a.rows k d))));
    entries = λ i j p q.
        ap (λ (rows : List (List ℤ)). get_or (get_or rows i []) j (pos 0)) f ∙
        ap (λ (row : List ℤ). get_or row j (pos 0)) (get_or-map (times b) a.rows i [] [] p) ∙
        get_or-map (λ row. lists.list_dot row (row_of a i)) b.rows j [] (pos 0) q ∙
        product_of_rows i j p q;
  }

  -- each row of a leaves room
  pub products_fit : ((i : ℕ) → i < length a.rows → All (λ row. lists.abs_dot row (row_of a i) < 2 ^ 127) b.rows) →
      AllFit (length a.rows) (length b.rows) (matrix_product_size a.cols (entry_of a) (transpose_of b))
  products_fit h i j p q = rw (← size_of_rows i j p q) (h i p j [] q)

  -- one doesn't
  pub product_is_wide : (i : ℕ) → i < length a.rows → ¬ All (λ row. lists.abs_dot row (row_of a i) < 2 ^ 127) b.rows →
      SomeIsWide (length a.rows) (length b.rows) (matrix_product_size a.cols (entry_of a) (transpose_of b))
  product_is_wide i p h = elim (some_or_none (length b.rows) (λ j. lists.abs_dot (row_of b j) (row_of a i))) [
    | inl some ↦ record { row = i; col = some.0; row_in = p; col_in = some.1; wide = rw (← size_of_rows i some.0 p some.1) some.2 }
    | inr none ↦ absurd (h (All-from_get_or (λ row. lists.abs_dot row (row_of a i) < 2 ^ 127) b.rows [] none))
  ]
    where
      some_or_none : (n : ℕ) (f : ℕ → ℕ) → ((j : ℕ) × (j < n) × (2 ^ 127 ≤ f j)) ⊎ ((j : ℕ) → j < n → f j < 2 ^ 127)
      some_or_none zero f = inr (λ j l. absurd (omega arith))
      some_or_none (suc n) f = elim (cases_lt (f n) (2 ^ 127)) [
        | inl l ↦ elim (some_or_none n f) [
          | inl some ↦ inl (some.0, omega arith, some.2)
          | inr none ↦ inr (λ j m. elim (cases_lt j n) [ inl o ↦ none j o | inr o ↦ (let e : j ≡ n = omega arith in rw e l) ])
        ]
        | inr l ↦ inl (n, omega arith, l)
      ]

-- ---- sums that are equal in range
-- sums that leave room
pub fit_same : (h w : ℕ) (f g : ℕ → ℕ → ℕ) → ((i j : ℕ) → i < h → j < w → f i j ≡ g i j) → AllFit h w f → AllFit h w g
fit_same h w f g same k = λ i j p q. rw (← same i j p q) (k i j p q)

-- and one that doesn't
pub wide_same : (h w : ℕ) (f g : ℕ → ℕ → ℕ) → ((i j : ℕ) → i < h → j < w → f i j ≡ g i j) → SomeIsWide h w f → SomeIsWide h w g
wide_same h w f g same k = record {
  row = k.row;
  col = k.col;
  row_in = k.row_in;
  col_in = k.col_in;
  wide = rw (← same k.row k.col k.row_in k.col_in) k.wide;
}

-- ---- products with a matrix t that is the transpose of another
module _ (b t : Matrix) (h : HasEntries b.cols (length b.rows) (transpose_of b) t) where
  -- of a and the transpose of t
  pub product_same : (a : Matrix) → a.cols ≡ length b.rows → (i j : ℕ) → j < b.cols →
      matrix_product a.cols (entry_of a) (transpose_of t) i j ≡ matrix_product a.cols (entry_of a) (entry_of b) i j
  product_same a e i j q = total_same a.cols _ _ (λ k l. ap (λ (z : ℤ). entry_of a i k *ℤ z) (h.entries j k q (omega (arith, e))))

  -- and its absolute sum
  pub product_size_same : (a : Matrix) → a.cols ≡ length b.rows → (i j : ℕ) → j < b.cols →
      matrix_product_size a.cols (entry_of a) (transpose_of t) i j ≡ matrix_product_size a.cols (entry_of a) (entry_of b) i j
  product_size_same a e i j q =
      amount_same a.cols _ _ (λ k l. ap (λ (z : ℤ). unsigned_abs (entry_of a i k) * unsigned_abs z) (h.entries j k q (omega (arith, e))))

-- ---- products of columns, with a weight for each row
-- of the columns of g: t has them with each row times its weight, `columns` as they are
module _ (g t columns : Matrix) (weight : ℕ → ℤ) (h : HasEntries g.cols (length g.rows) (λ j i. weight i *ℤ entry_of g i j) t)
    (k : HasEntries g.cols (length g.rows) (transpose_of g) columns) where
  -- their product
  pub gram_same : (j l : ℕ) → j < g.cols → l < g.cols →
      matrix_product t.cols (entry_of t) (transpose_of columns) j l ≡ weighted_gram_matrix (length g.rows) weight (entry_of g) j l
  gram_same j l p q = rw h.cols (total_same (length g.rows) _ _ (λ i o.
      ap₂ (λ (x y : ℤ). x *ℤ y) (h.entries j i p o) (k.entries l i q o) ∙ mul_assoc_z (weight i) (entry_of g i j) (entry_of g i l)))

  -- and its absolute sum
  pub gram_size_same : (j l : ℕ) → j < g.cols → l < g.cols →
      matrix_product_size t.cols (entry_of t) (transpose_of columns) j l ≡ weighted_gram_size (length g.rows) weight (entry_of g) j l
  gram_size_same j l p q = rw h.cols (amount_same (length g.rows) _ _ (λ i o.
      ap₂ (λ (x y : ℤ). unsigned_abs x * unsigned_abs y) (h.entries j i p o) (k.entries l i q o) ∙ apart (weight i) (entry_of g i j) (entry_of g i l)))
    where
      apart : (w a b : ℤ) → unsigned_abs (w *ℤ a) * unsigned_abs b ≡ unsigned_abs w * (unsigned_abs a * unsigned_abs b)
      apart w a b = ap (λ (n : ℕ). n * unsigned_abs b) (unsigned_abs-mul w a) ∙ mul_assoc (unsigned_abs w) (unsigned_abs a) (unsigned_abs b)

-- where an entry times its row's weight has no room, the products of its column with itself don't either
pub weighted_row_is_wide : (m n : ℕ) (weight : ℕ → ℤ) (g : ℕ → ℕ → ℤ) → SomeIsWide m n (λ i j. unsigned_abs (weight i *ℤ g i j)) →
    SomeIsWide n n (weighted_gram_size m weight g)
weighted_row_is_wide m n weight g h = record {
  row = h.col;
  col = h.col;
  row_in = h.col_in;
  col_in = h.col_in;
  wide = omega (
    arith,
    h.wide,
    unsigned_abs-mul (weight h.row) (g h.row h.col),
    mul-le-mul_left (unsigned_abs (weight h.row)) (square_le (unsigned_abs (g h.row h.col))),
    amount_term h.row m (λ i. unsigned_abs (weight i) * (unsigned_abs (g i h.col) * unsigned_abs (g i h.col))) h.row_in,
  );
}
  where
    square_le : (a : ℕ) → a ≤ a * a
    square_le zero = omega arith
    square_le (suc a) = omega arith
