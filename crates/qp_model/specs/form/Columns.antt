-- The systems that the gains of a controller solve: one matrix, and a column for each state, for the constant, and for each limit row.
use Rattle.std.specs.Prelude.{ℕ, ◌+◌, ◌-◌, ◌*◌, ◌^◌, ℤ, ◌*ℤ◌, unsigned_abs, nat_lt, ◌==◌, if◌then◌else◌}
use Rattle.integer_algebra.specs.Division.{ceil_div}
use Rattle.integer_algebra.specs.Sizes.{size}
use Rattle.qp_model.specs.form.Form.{Form}
use Rattle.qp_model.specs.form.Quantities.{greatest}

-- the hessian times the limits' denominator
abbrev pub solve_matrix : Form → ℕ → ℕ → ℤ
solve_matrix h i j = h.matrix_factor *ℤ h.numbers.hessian i j

-- how many columns there are
abbrev pub columns : Form → ℕ
columns h = h.states + 1 + h.rows

-- column i: those of the linear part, that of the constant, and those of the rows, on the matrix's denominator
abbrev pub solve_column : Form → ℕ → ℕ → ℤ
solve_column h i j =
    if nat_lt i h.states then h.matrix_factor *ℤ h.numbers.linear j i
    else if i == h.states then h.matrix_factor *ℤ h.numbers.constant j
    else h.row_factor *ℤ h.numbers.by_plan (i - (h.states + 1)) j

-- the absolute sum of column i, and a bound on the entries of its solution at f bits
abbrev pub column_size : Form → ℕ → ℕ
column_size h i = size h.entries (solve_column h i)

abbrev pub column_bound : Form → ℕ → ℕ → ℕ
column_bound h f i = ceil_div (2 ^ (f + 1) * column_size h i) (unsigned_abs h.floor)

-- a number that bounds all that solving at f bits computes: `descent`
abbrev pub descent_size : Form → ℕ → ℕ
descent_size h f =
    2 * greatest h.entries (λ j. size h.entries (solve_matrix h j)) * (greatest (columns h) (column_bound h f) + 1)
    + 2 ^ (f + 1) * greatest (columns h) (column_size h)
