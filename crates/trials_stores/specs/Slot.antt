-- What a store in memory keeps under a name.
use Rattle.std.specs.Prelude.{ℕ, List, Option}

-- the bytes, where any are held, and how many may be written
pub record Slot : Type 0 where
  pub held : Option (List ℕ)
  pub room : ℕ
