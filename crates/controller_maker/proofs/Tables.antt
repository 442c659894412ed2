-- Lists and matrices that are made by index, beside others.
use Rattle.std.proofs.Common.{◌≡◌, ℕ, ◌+◌, ◌-◌, ◌*◌, ◌<◌, ◌≤◌, ℤ, pos, List, [], length, unsigned_abs, nat_lt, ◌==◌, if◌then◌else◌, arith, ap, ◌∙◌}
use Rattle.std.proofs.lemmas.Bool.Decides.{nat_tests}
use Rattle.std.proofs.lemmas.List.FromFn.{get_or-map-range_with_len, length-map-range_with_len}
use Rattle.integer_algebra.specs.Sums.{at}
use Rattle.mat_int.specs.Matrix.{Matrix, row_of, entry_of, HasEntries}
use Rattle.qp_model.specs.problem.Design.{Design, entries}
use Rattle.qp_model.specs.machine.Controller.{Numbers, HasShape, plan_length}
use Rattle.approx_inverse.specs.Inverse.{solution_of}
use Rattle.approx_inverse.specs.declared.inverse.Inverse.{Inverse}
use Rattle.controller_maker.specs.Widest.{listed, table}
use Rattle.controller_maker.proofs.Monotone.{IsUnder}

-- a row's length
pub row_long : (m : Matrix) (height width i : ℕ) → HasShape m height width → i < height → length (row_of m i) ≡ width
row_long m height width i shape l = shape.each i [] (omega (arith, shape.rows))

-- a shape, by other names of its numbers
pub shape_as : (m : Matrix) (h w height width : ℕ) → h ≡ height → w ≡ width → HasShape m h w → HasShape m height width
shape_as m h w height width e f s = rw (e, f) at s

-- the entries of a controller's plan are the design's
pub plan_long : (d : Design) (c : Numbers) → c.inputs ≡ d.inputs → c.stages ≡ d.stages → plan_length c ≡ entries d
plan_long d c e f = (λ i. e i * f i) ∙ turned d.inputs d.stages
  where
    turned : (m n : ℕ) → m * n ≡ n * m
    turned m n = omega arith

pub line_long : (n : ℕ) (g : ℕ → ℤ) → length (listed n g) ≡ n
line_long n g = length-map-range_with_len g 0 n

pub line_at : (n : ℕ) (g : ℕ → ℤ) (k : ℕ) → k < n → at (listed n g) k ≡ g k
line_at n g k l = get_or-map-range_with_len g 0 n k k (pos 0) l (omega arith)

table_row : (h w : ℕ) (g : ℕ → ℕ → ℤ) (i : ℕ) → i < h → row_of (table h w g) i ≡ listed w (g i)
table_row h w g i l = get_or-map-range_with_len (λ i. listed w (g i)) 0 h i i [] l (omega arith)

-- ---- a list under one that is made by index, and the other way round
pub under_line : (n : ℕ) (xs : List ℤ) (g : ℕ → ℤ) → length xs ≡ n → ((k : ℕ) → k < n → unsigned_abs (at xs k) ≤ unsigned_abs (g k)) → IsUnder n xs (listed n g)
under_line n xs g e h = record { long = e; wide = line_long n g; each = λ k l. rw (line_at n g k l) (h k l) }

pub line_under : (n : ℕ) (xs : List ℤ) (g : ℕ → ℤ) → length xs ≡ n → ((k : ℕ) → k < n → unsigned_abs (g k) ≤ unsigned_abs (at xs k)) → IsUnder n (listed n g) xs
line_under n xs g e h = record { long = line_long n g; wide = e; each = λ k l. rw (line_at n g k l) (h k l) }

pub under_table : (m : Matrix) (h w : ℕ) (g : ℕ → ℕ → ℤ) → HasShape m h w → ((i j : ℕ) → i < h → j < w → unsigned_abs (entry_of m i j) ≤ unsigned_abs (g i j)) →
    (i : ℕ) → i < h → IsUnder w (row_of m i) (row_of (table h w g) i)
under_table m h w g shape below i l = rw (table_row h w g i l) (under_line w (row_of m i) (g i) (row_long m h w i shape l) (λ j k. below i j l k))

pub table_under : (m : Matrix) (h w : ℕ) (g : ℕ → ℕ → ℤ) → HasShape m h w → ((i j : ℕ) → i < h → j < w → unsigned_abs (g i j) ≤ unsigned_abs (entry_of m i j)) →
    (i : ℕ) → i < h → IsUnder w (row_of (table h w g) i) (row_of m i)
table_under m h w g shape below i l = rw (table_row h w g i l) (line_under w (row_of m i) (g i) (row_long m h w i shape l) (λ j k. below i j l k))

-- the shape of a matrix whose entries are known
pub shape_of : (m : Matrix) (h w : ℕ) (g : ℕ → ℕ → ℤ) → HasEntries h w g m → HasShape m h w
shape_of m h w g e = record { rows = e.rows; cols = e.cols; each = e.even }

pub abs_le : (x y : ℤ) → x ≡ y → unsigned_abs x ≤ unsigned_abs y
abs_le x y e = rw e (omega arith)

pub abs_ge : (x y : ℤ) → x ≡ y → unsigned_abs y ≤ unsigned_abs x
abs_ge x y e = rw e (omega arith)

-- ---- the parts of a solution
choose_first : (i n : ℕ) (a b e : ℤ) → i < n → (if nat_lt i n then a else if i == n then b else e) ≡ a
choose_first i n a b e l = grind (arith, nat_tests)

choose_second : (i n : ℕ) (a b e : ℤ) → i ≡ n → (if nat_lt i n then a else if i == n then b else e) ≡ b
choose_second i n a b e l = grind (arith, nat_tests)

choose_third : (i n : ℕ) (a b e : ℤ) → n < i → (if nat_lt i n then a else if i == n then b else e) ≡ e
choose_third i n a b e l = grind (arith, nat_tests)

pub solution_state : (v : Inverse) (n i j : ℕ) → v.p_mat.cols ≡ n → i < n → solution_of v i j ≡ entry_of v.p_mat j i
solution_state v n i j e l = choose_first i v.p_mat.cols _ _ _ (omega arith)

pub solution_constant : (v : Inverse) (n j : ℕ) → v.p_mat.cols ≡ n → solution_of v n j ≡ at v.t.items j
solution_constant v n j e = choose_second n v.p_mat.cols _ _ _ (omega arith)

pub solution_row : (v : Inverse) (n i j : ℕ) → v.p_mat.cols ≡ n → solution_of v (n + 1 + i) j ≡ entry_of v.w_mat j i
solution_row v n i j e =
    choose_third (n + 1 + i) v.p_mat.cols _ _ _ (omega arith) ∙
    (let same : n + 1 + i - (v.p_mat.cols + 1) ≡ i = omega arith in ap (λ (k : ℕ). entry_of v.w_mat j k) same)
