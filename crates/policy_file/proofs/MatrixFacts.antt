-- Matrices filled row by row.
use Rattle.std.proofs.Common.{◌≡◌, ℕ, ◌+◌, ◌<◌, ℤ, List, [], ◌∷◌, ◌++◌, length, ap, ◌∙◌, arith, below_more}
use Rattle.std.proofs.lemmas.List.{get_or_append_left, get_or_push, length_push, ext_get_or}
use Rattle.mat_int.specs.Matrix.{Matrix, row_of}

-- so many rows of one length, of which each holds something
pub record Filled (P : ℕ → List ℤ → Type 0) (m : Matrix) (width i : ℕ) : Type 0 where
  pub long : length m.rows ≡ i
  pub cols : m.cols ≡ width
  pub each : (e : ℕ) → e < i → P e (row_of m e)

pub none_filled : (P : ℕ → List ℤ → Type 0) (m : Matrix) (width : ℕ) → m.cols ≡ width → length m.rows ≡ 0 → Filled P m width 0
none_filled P m width c l = record { long = l; cols = c; each = λ e h. absurd (omega (arith, h)) }

pub row_pushed : (P : ℕ → List ℤ → Type 0) (m new : Matrix) (width i : ℕ) (xs : List ℤ) → new ≡ record m { rows = m.rows ++ xs ∷ [] } → P i xs → Filled P m width i → Filled P new width (i + 1)
row_pushed P m new width i xs e h f = rw e (record {
  long = length_push m.rows xs ∙ ap (λ (n : ℕ). n + 1) f.long;
  cols = f.cols;
  each = below_more _ _ (λ k l. rw (get_or_append_left m.rows (xs ∷ []) [] k (omega (arith, f.long))) (f.each k l)) (rw (get_or_push m.rows xs [] i f.long) h);
})

-- two matrices of one shape with the same rows
pub same_matrix : (m n : Matrix) → m.cols ≡ n.cols → length m.rows ≡ length n.rows → ((e : ℕ) → e < length m.rows → row_of m e ≡ row_of n e) → m ≡ n
same_matrix m n c l h = together m n c (ext_get_or [] m.rows n.rows l h)
  where
    together : (m n : Matrix) → m.cols ≡ n.cols → m.rows ≡ n.rows → m ≡ n
    together m n c r = (λ i. record { cols = c i; rows = r i })
