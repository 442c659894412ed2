-- A quotient with what is left of it.
use Rattle.std.specs.Prelude.{◌≡◌, ℤ, pos, ◌+ℤ◌, ◌*ℤ◌, ◌≤ℤ◌, ◌<ℤ◌}

-- z over den is whole, and rest is left
pub record IsQuotient (z den whole rest : ℤ) : Type 0 where
  pub sum : z ≡ whole *ℤ den +ℤ rest
  pub low : pos 0 ≤ℤ rest
  pub high : rest <ℤ den
