-- Products of the columns of a matrix of enclosures, over any denominator.
use Rattle.std.specs.Prelude.{ℕ, ℤ}
use Rattle.frac_scaled.specs.Enclosures.{Enclosure, divided}
use Rattle.mat_int.specs.Enclosures.{gram_sum}

-- columns j and l, multiplied row by row, each times the weight of its row; over den, rounded once
abbrev pub products_over : (den : ℕ) → ℕ → (ℕ → ℤ) → (ℕ → ℕ → Enclosure) → ℕ → ℕ → Enclosure
products_over den n weight x j l = divided (gram_sum n weight x j l) den
