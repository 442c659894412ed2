-- The integers that a value has. Other values, as floats and booleans, are none.
use Rattle.std.specs.Prelude.{◌≡◌, ℕ, ℤ, pos, List, [], ◌∷◌, length, All, Option, Some, IsSome, IsSomeAnd, unwrap_or, unsigned_abs}
use Rattle.std.specs.Option.{option_and_then, option_map}
use Rattle.toml.specs.Data.{Data, Items, no_items, item, as_integer, as_array}
use Rattle.mat_int.specs.Matrix.{Matrix}
use Rattle.qp_model.specs.problem.Range.{LiesIn}

-- the integer that a value is
abbrev pub number_in : Option Data → Option ℤ
number_in value = option_and_then as_integer value

-- the integers that the items are, where each is one
abbrev pub integers_of : Items → Option (List ℤ)
integers_of no_items = Some []
integers_of (item value items) = option_and_then (λ z. option_map (λ zs. z ∷ zs) (integers_of items)) (as_integer value)

-- the list of integers that a value is
abbrev pub list_in : Option Data → Option (List ℤ)
list_in value = option_and_then integers_of (option_and_then as_array value)

-- the lists of integers that the items are, where each is one
abbrev pub rows_of : Items → Option (List (List ℤ))
rows_of no_items = Some []
rows_of (item value items) = option_and_then (λ row. option_map (λ rows. row ∷ rows) (rows_of items)) (list_in (Some value))

-- the list of lists of integers that a value is
abbrev pub lists_in : Option Data → Option (List (List ℤ))
lists_in value = option_and_then rows_of (option_and_then as_array value)

-- the value is the list of a matrix's rows, each as long as the matrix is wide
pub record IsMatrix (value : Option Data) (m : Matrix) : Type 0 where
  pub rows : lists_in value ≡ Some m.rows
  pub even : All (λ row. length row ≡ m.cols) m.rows

-- ---- shapes
abbrev pub IsNumber : Option Data → Type 0
IsNumber value = IsSome (number_in value)

-- so many integers
abbrev pub IsIntegerList : ℕ → Option Data → Type 0
IsIntegerList count value = IsSomeAnd (list_in value) (λ zs. length zs ≡ count)

-- low to high lists of so many integers each
abbrev pub IsLists : ℕ → ℕ → ℕ → Option Data → Type 0
IsLists low high width value = IsSomeAnd (lists_in value) (λ rows. LiesIn low high (length rows) × All (λ row. length row ≡ width) rows)

-- ---- the numbers of a value that has its shape
abbrev pub number_of : Option Data → ℤ
number_of value = unwrap_or (number_in value) (pos 0)

abbrev pub count_of : Option Data → ℕ
count_of value = unsigned_abs (number_of value)

abbrev pub list_of : Option Data → List ℤ
list_of value = unwrap_or (list_in value) []

abbrev pub lists_of : Option Data → List (List ℤ)
lists_of value = unwrap_or (lists_in value) []
