-- The names of programs.
use Rattle.std.specs.Prelude.{◌≡◌, ◌⊎◌, ℕ, ◌≤◌, List, length, All, slice_index_or}

-- a lower-case letter, then such letters, digits and `_`, of at most 31 bytes in all
abbrev pub IsLetter : ℕ → Type 0
IsLetter b = (97 ≤ b) × (b ≤ 122)

abbrev pub IsNameByte : ℕ → Type 0
IsNameByte b = IsLetter b ⊎ (((48 ≤ b) × (b ≤ 57)) ⊎ (b ≡ 95))

pub record IsName (name : List ℕ) : Type 0 where
  pub first : IsLetter (slice_index_or name 0 0)
  pub each : All IsNameByte name
  pub short : length name ≤ 31
