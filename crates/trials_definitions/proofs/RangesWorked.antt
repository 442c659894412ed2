-- Ranges and greatest sizes: both ends, and one beyond each.
use Rattle.std.proofs.Common.{◌≡◌, pos, negsuc, [], ◌∷◌, map, refl, arith}
use Rattle.qp_model.specs.problem.Range.{LiesIn, IsNumerator, IsDenominator, IsPositive}
use Rattle.qp_model.specs.problem.Limits.{text_version, last_version, most_states, most_inputs, most_stages, most_rows}

-- ---- the sizes of the two versions
versions : text_version ∷ last_version ∷ [] ≡ 1 ∷ 2 ∷ []
versions = refl

states : map most_states (1 ∷ 2 ∷ []) ≡ 4 ∷ 6 ∷ []
states = refl

inputs : map most_inputs (1 ∷ 2 ∷ []) ≡ 3 ∷ 3 ∷ []
inputs = refl

stages : map most_stages (1 ∷ 2 ∷ []) ≡ 20 ∷ 30 ∷ []
stages = refl

rows : map most_rows (1 ∷ 2 ∷ []) ≡ 252 ∷ 372 ∷ []
rows = refl

-- ---- from 2 to 4
in_low : LiesIn 2 4 2
in_low = (omega arith, omega arith)

in_high : LiesIn 2 4 4
in_high = (omega arith, omega arith)

in_below : LiesIn 2 4 1 → ⊥
in_below h = omega (arith, h.0)

in_above : LiesIn 2 4 5 → ⊥
in_above h = omega (arith, h.1)

-- ---- numerators
numerator_high : IsNumerator (pos 2147483647)
numerator_high = omega arith

numerator_low : IsNumerator (negsuc 2147483646)
numerator_low = omega arith

numerator_above : IsNumerator (pos 2147483648) → ⊥
numerator_above h = omega (arith, h)

numerator_below : IsNumerator (negsuc 2147483647) → ⊥
numerator_below h = omega (arith, h)

-- ---- denominators
denominator_low : IsDenominator (pos 1)
denominator_low = record { low = record { le = tt }; high = record { le = tt } }

denominator_high : IsDenominator (pos 1048576)
denominator_high = record { low = record { le = tt }; high = record { le = tt } }

denominator_below : IsDenominator (pos 0) → ⊥
denominator_below h = h.low.le

denominator_above : IsDenominator (pos 1048577) → ⊥
denominator_above h = h.high.le

-- ---- weights
positive_low : IsPositive (pos 1)
positive_low = record { low = record { le = tt }; high = record { lt = tt } }

positive_high : IsPositive (pos 2147483647)
positive_high = record { low = record { le = tt }; high = record { lt = tt } }

positive_below : IsPositive (pos 0) → ⊥
positive_below h = h.low.le

positive_above : IsPositive (pos 2147483648) → ⊥
positive_above h = h.high.lt
