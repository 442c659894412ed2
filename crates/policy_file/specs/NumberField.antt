-- A whole number as a field of a record.
use Rattle.std.specs.Prelude.{◌≡◌, ℕ, ◌≤◌, ◌^◌, ◌-◌, Bool, List, ◌∷◌, ◌++◌, length, All, ℤ, pos, neg_ℤ, if◌then◌else◌}
use Rattle.std.specs.Str.Parse.{AllDigits, digits_value}

-- the space, and no tab
abbrev pub IsSpace : ℕ → Type 0
IsSpace b = b ≡ 32

-- one to nineteen digits, leading zeros among them, and then any number of spaces: a number n below 2^63
pub record IsDigitsField (text : List ℕ) (n : ℕ) : Type 0 where
  pub digits : List ℕ
  pub after : List ℕ
  pub split : text ≡ digits ++ after
  pub spaces : All IsSpace after
  pub some : 1 ≤ length digits
  pub few : length digits ≤ 19
  pub each : AllDigits 10 digits
  pub value : n ≡ digits_value 10 digits
  pub small : n ≤ 2 ^ 63 - 1

-- any number of spaces, a minus or none, and such digits: a number z
pub record IsNumberField (field : List ℕ) (z : ℤ) : Type 0 where
  pub before : List ℕ
  pub minus : Bool
  pub text : List ℕ
  pub size : ℕ
  pub split : field ≡ before ++ (if minus then 45 ∷ text else text)
  pub spaces : All IsSpace before
  pub digits : IsDigitsField text size
  pub value : z ≡ (if minus then neg_ℤ (pos size) else pos size)
