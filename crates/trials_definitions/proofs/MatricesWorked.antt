-- Rows and matrices: the entries that are told, and one past each end.
use Rattle.std.proofs.Common.{◌≡◌, ℕ, zero, suc, ◌<◌, ◌^◌, ◌-◌, ℤ, pos, negsuc, [], ◌∷◌, map, length, refl, arith}
use Rattle.mat_int.specs.Row.{list_dot, abs_dot, abs_sum}
use Rattle.mat_int.specs.Matrix.{Matrix, row_of, column_of, entry_of, transpose_of, with_entry, zero_matrix, HasEntries, AllFit, SomeIsWide, times}
use Rattle.integer_algebra.specs.Sums.{flat}
use Rattle.std.specs.Prelude.{All}

-- ---- rows
dots : list_dot (pos 2 ∷ pos 3 ∷ []) (pos 5 ∷ negsuc 6 ∷ []) ∷ list_dot [] (pos 5 ∷ []) ∷ list_dot (pos 2 ∷ pos 3 ∷ []) (pos 5 ∷ []) ∷ [] ≡ negsuc 10 ∷ pos 0 ∷ pos 10 ∷ []
dots = refl

absolute_dots : abs_dot (pos 2 ∷ pos 3 ∷ []) (pos 5 ∷ negsuc 6 ∷ []) ∷ abs_dot [] (pos 5 ∷ []) ∷ abs_dot (pos 2 ∷ pos 3 ∷ []) (pos 5 ∷ []) ∷ [] ≡ 31 ∷ 0 ∷ 10 ∷ []
absolute_dots = refl

absolute_sums : abs_sum (pos 2 ∷ negsuc 2 ∷ []) ∷ abs_sum [] ∷ [] ≡ 5 ∷ 0 ∷ []
absolute_sums = refl

-- ---- two rows of three
abbrev wide : Matrix
wide = record { cols = 3; rows = (pos 1 ∷ pos 2 ∷ pos 3 ∷ []) ∷ (pos 4 ∷ pos 5 ∷ pos 6 ∷ []) ∷ [] }

rows : map (row_of wide) (0 ∷ 1 ∷ 2 ∷ []) ≡ (pos 1 ∷ pos 2 ∷ pos 3 ∷ []) ∷ (pos 4 ∷ pos 5 ∷ pos 6 ∷ []) ∷ [] ∷ []
rows = refl

columns : map (column_of wide) (0 ∷ 2 ∷ 3 ∷ []) ≡ (pos 1 ∷ pos 4 ∷ []) ∷ (pos 3 ∷ pos 6 ∷ []) ∷ (pos 0 ∷ pos 0 ∷ []) ∷ []
columns = refl

corners : entry_of wide 0 2 ∷ entry_of wide 1 0 ∷ entry_of wide 2 0 ∷ entry_of wide 0 3 ∷ [] ≡ pos 3 ∷ pos 4 ∷ pos 0 ∷ pos 0 ∷ []
corners = refl

exchanged : transpose_of wide 2 0 ∷ transpose_of wide 0 1 ∷ [] ≡ pos 3 ∷ pos 4 ∷ []
exchanged = refl

changed : with_entry wide 1 2 (pos 9) ≡ record { cols = 3; rows = (pos 1 ∷ pos 2 ∷ pos 3 ∷ []) ∷ (pos 4 ∷ pos 5 ∷ pos 9 ∷ []) ∷ [] }
changed = refl

zeros : zero_matrix 2 3 ≡ record { cols = 3; rows = (pos 0 ∷ pos 0 ∷ pos 0 ∷ []) ∷ (pos 0 ∷ pos 0 ∷ pos 0 ∷ []) ∷ [] }
zeros = refl

image : times wide (pos 1 ∷ pos 0 ∷ negsuc 0 ∷ []) ≡ negsuc 1 ∷ negsuc 1 ∷ []
image = refl

-- ---- shapes and entries
abbrev numbered : ℕ → ℕ → ℤ
numbered = flat 3 (pos 1 ∷ pos 2 ∷ pos 3 ∷ pos 4 ∷ pos 5 ∷ pos 6 ∷ [])

even : All (λ row. length row ≡ 3) wide.rows
even zero d h = refl
even (suc zero) d h = refl
even (suc (suc k)) d h = absurd (omega (arith, h))

numbers : (i j : ℕ) → i < 2 → j < 3 → entry_of wide i j ≡ numbered i j
numbers zero zero h l = refl
numbers zero (suc zero) h l = refl
numbers zero (suc (suc zero)) h l = refl
numbers (suc zero) zero h l = refl
numbers (suc zero) (suc zero) h l = refl
numbers (suc zero) (suc (suc zero)) h l = refl
numbers (suc (suc i)) j h l = absurd (omega (arith, h))
numbers i (suc (suc (suc j))) h l = absurd (omega (arith, l))

has_entries : HasEntries 2 3 numbered wide
has_entries = record { rows = refl; cols = refl; even = even; entries = numbers }

rows_more : HasEntries 3 3 numbered wide → ⊥
rows_more h = omega (arith, h.rows)

columns_more : HasEntries 2 3 numbered (record wide { cols = 2 }) → ⊥
columns_more h = omega (arith, h.cols)

uneven : HasEntries 1 1 numbered (record { cols = 1; rows = (pos 1 ∷ pos 2 ∷ []) ∷ [] }) → ⊥
uneven h = omega (arith, h.even 0 [] (omega arith))

-- ---- room in 128 bits
fits : AllFit 1 1 (λ i j. 2 ^ 127 - 1)
fits i j h l = omega arith

fits_not : AllFit 1 1 (λ i j. 2 ^ 127) → ⊥
fits_not h = omega (arith, h 0 0 (omega arith) (omega arith))

is_wide : SomeIsWide 1 1 (λ i j. 2 ^ 127)
is_wide = record { row = 0; col = 0; row_in = omega arith; col_in = omega arith; wide = omega arith }

wide_not : SomeIsWide 1 1 (λ i j. 2 ^ 127 - 1) → ⊥
wide_not h = omega (arith, h.wide)

no_row : SomeIsWide 0 1 (λ i j. 2 ^ 127) → ⊥
no_row h = omega (arith, h.row_in)

no_column : SomeIsWide 1 0 (λ i j. 2 ^ 127) → ⊥
no_column h = omega (arith, h.col_in)
