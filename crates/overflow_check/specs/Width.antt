-- The width of a word that holds numbers up to a bound.
use Rattle.std.specs.Prelude.{ℕ, ◌-◌, ◌^◌, ◌≤◌}

-- w is the least number of bits, from 2, of a signed word that holds every number of at most this absolute value
pub record IsWidth (greatest w : ℕ) : Type 0 where
  pub two : 2 ≤ w
  pub holds : greatest ≤ 2 ^ (w - 1) - 1
  pub least : (v : ℕ) → 2 ≤ v → greatest ≤ 2 ^ (v - 1) - 1 → w ≤ v
