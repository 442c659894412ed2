-- The versions of the texts of a design and of a controller, and their greatest sizes by them.
use Rattle.std.specs.Prelude.{ℕ, ◌+◌, ◌*◌, ◌==◌, if◌then◌else◌}

-- `FIRST_VERSION` of the code: the first
abbrev pub text_version : ℕ
text_version = 1

-- `LAST_VERSION` of the code: the last
abbrev pub last_version : ℕ
last_version = 2

abbrev pub most_states : (version : ℕ) → ℕ
most_states version = if version == 1 then 4 else 6

-- of a stage
abbrev pub most_inputs : (version : ℕ) → ℕ
most_inputs version = 3

abbrev pub most_stages : (version : ℕ) → ℕ
most_stages version = if version == 1 then 20 else 30

-- limit rows of all stages and the final ones: 12 of each kind
abbrev pub most_rows : (version : ℕ) → ℕ
most_rows version = most_stages version * 12 + 12
