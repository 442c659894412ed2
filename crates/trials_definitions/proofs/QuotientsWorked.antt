-- Quotients, sums and bounds: the numbers that are told, and one beside each that isn't.
use Rattle.std.proofs.Common.{◌≡◌, ℕ, ℤ, pos, negsuc, [], ◌∷◌, map, refl, arith}
use Rattle.std.proofs.lemmas.Int.{ints}
use Rattle.integer_algebra.specs.Sums.{total, square, dot, image, coimage, none, at, flat}
use Rattle.integer_algebra.specs.Bounds.{absolute, IsWithin, clamped}
use Rattle.integer_algebra.specs.Division.{ceil_div, floor_of, ceil_of, round_of, IsFloor, IsCeiling, IsNearest}

-- ---- sums: of 3, 5, 9, and of a matrix with the rows 1, 2 and 4, -3
abbrev three : ℕ → ℤ
three = at (pos 3 ∷ pos 5 ∷ pos 9 ∷ [])

abbrev entries : ℕ → ℕ → ℤ
entries = flat 2 (pos 1 ∷ pos 2 ∷ pos 4 ∷ negsuc 2 ∷ [])

totals : map (λ n. total n three) (0 ∷ 1 ∷ 2 ∷ 3 ∷ 4 ∷ []) ≡ pos 0 ∷ pos 3 ∷ pos 8 ∷ pos 17 ∷ pos 17 ∷ []
totals = refl

products : dot 2 three (at (pos 2 ∷ negsuc 0 ∷ pos 7 ∷ [])) ∷ square (negsuc 2) ∷ [] ≡ pos 1 ∷ pos 9 ∷ []
products = refl

images : map (image 2 entries three) (0 ∷ 1 ∷ []) ≡ pos 13 ∷ negsuc 2 ∷ []
images = refl

coimages : map (coimage 2 entries three) (0 ∷ 1 ∷ []) ≡ pos 23 ∷ negsuc 8 ∷ []
coimages = refl

zeros : map none (0 ∷ 3 ∷ []) ≡ pos 0 ∷ pos 0 ∷ []
zeros = refl

-- ---- bounds
absolutes : map absolute (negsuc 3 ∷ pos 0 ∷ pos 4 ∷ []) ≡ pos 4 ∷ pos 0 ∷ pos 4 ∷ []
absolutes = refl

nearest_in_range : map (clamped (pos 5)) (negsuc 2 ∷ pos 0 ∷ pos 3 ∷ pos 5 ∷ pos 6 ∷ []) ≡ pos 0 ∷ pos 0 ∷ pos 3 ∷ pos 5 ∷ pos 5 ∷ []
nearest_in_range = refl

within_high : IsWithin (pos 5) (pos 5)
within_high = record { below = record { le = tt }; above = record { le = tt } }

within_low : IsWithin (pos 5) (negsuc 4)
within_low = record { below = record { le = tt }; above = record { le = tt } }

within_above : IsWithin (pos 5) (pos 6) → ⊥
within_above h = h.below.le

within_below : IsWithin (pos 5) (negsuc 5) → ⊥
within_below h = h.above.le

-- ---- quotients: of 7 and -7, of 6 and -6, over 2 or 4
ceilings_of_naturals : ceil_div 6 2 ∷ ceil_div 7 2 ∷ ceil_div 1 4 ∷ ceil_div 0 4 ∷ [] ≡ 3 ∷ 4 ∷ 1 ∷ 0 ∷ []
ceilings_of_naturals = refl

floors : floor_of (pos 7) 2 ∷ floor_of (negsuc 6) 2 ∷ floor_of (pos 6) 2 ∷ floor_of (negsuc 5) 2 ∷ [] ≡ pos 3 ∷ negsuc 3 ∷ pos 3 ∷ negsuc 2 ∷ []
floors = refl

ceilings : ceil_of (pos 7) 2 ∷ ceil_of (negsuc 6) 2 ∷ ceil_of (pos 6) 2 ∷ ceil_of (negsuc 5) 2 ∷ [] ≡ pos 4 ∷ negsuc 2 ∷ pos 3 ∷ negsuc 2 ∷ []
ceilings = refl

-- 7/4 and -7/4 to 2 and -2, 6/4 and -6/4 to 2 and -1, 5/4 to 1
rounded : round_of (pos 7) 4 ∷ round_of (negsuc 6) 4 ∷ round_of (pos 6) 4 ∷ round_of (negsuc 5) 4 ∷ round_of (pos 5) 4 ∷ [] ≡ pos 2 ∷ negsuc 1 ∷ pos 2 ∷ negsuc 0 ∷ pos 1 ∷ []
rounded = refl

floor_whole : IsFloor (pos 6) 2 (pos 3)
floor_whole = record { least = record { le = tt }; greatest = record { lt = tt } }

floor_less : IsFloor (pos 6) 2 (pos 2) → ⊥
floor_less h = h.greatest.lt

floor_two_less : IsFloor (pos 7) 2 (pos 2) → ⊥
floor_two_less h = h.greatest.lt

floor_more : IsFloor (pos 7) 2 (pos 4) → ⊥
floor_more h = h.least.le

ceiling_whole : IsCeiling (pos 6) 2 (pos 3)
ceiling_whole = record { greatest = record { le = tt }; least = record { lt = tt } }

ceiling_more : IsCeiling (pos 6) 2 (pos 4) → ⊥
ceiling_more h = h.least.lt

ceiling_less : IsCeiling (pos 7) 2 (pos 3) → ⊥
ceiling_less h = h.greatest.le

-- of the two that are as near to 6/4, the upper one
nearest_below : IsNearest (pos 6) 4 (pos 1) → ⊥
nearest_below h = (h.upward (pos 2) (record { lt = tt })).lt

nearest_far : IsNearest (pos 7) 4 (pos 1) → ⊥
nearest_far h = (h.near (pos 2)).le

nearest_whole : IsNearest (pos 4) 4 (pos 1)
nearest_whole = record { near = λ k. omega (arith, ints); upward = λ k l. omega (arith, ints, l) }
