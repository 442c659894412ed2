-- What a reader gave and a writer got, where they tell.
use Rattle.std.specs.Prelude.{◌≤◌, ℕ, List, length, Option}
use Rattle.std.specs.Io.KnownBytes.{Consumes, Appends}
use Rattle.io_edge.specs.Faults.{IsProperPrefix}

-- a reader gave its first bytes, at most so many of them
pub record TakesAtMost (old new : Option (List ℕ)) (most : ℕ) : Type 0 where
  pub taken : List ℕ
  pub gone : Consumes old new taken
  pub within : length taken ≤ most

-- a writer got a front of these bytes, and not all of them
pub record AppendsProperFront (old new : Option (List ℕ)) (bytes : List ℕ) : Type 0 where
  pub part : List ℕ
  pub front : IsProperPrefix bytes part
  pub grown : Appends old new part
