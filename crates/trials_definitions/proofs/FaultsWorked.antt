-- What the words of faults say, tried on worked counts and bytes, also what they don't: a count that stays rose only where it is the greatest, and the
-- whole is no proper part.
use Rattle.std.proofs.Common.{◌≡◌, inl, inr, ℕ, ◌+◌, List, [], ◌∷◌, ◌++◌, length, refl, arith, ap, ◌∙◌, length-append}
use Rattle.io_edge.specs.Faults.{Rose, NoneFalls, AreCounts, IsProperPrefix, GrowsByPart}

-- ---- counts
rose_by_one : Rose 3 4
rose_by_one = record { rise = inl (omega arith) }

rose_not : Rose 3 3 → ⊥
rose_not h = omega (arith, h.rise)

rose_falling : Rose 3 2 → ⊥
rose_falling h = omega (arith, h.rise)

-- the greatest count stands for more
rose_greatest : Rose 18446744073709551615 18446744073709551615
rose_greatest = record { rise = inr refl }

rose_next_greatest : Rose 18446744073709551614 18446744073709551614 → ⊥
rose_next_greatest h = omega (arith, h.rise)

one_falls : NoneFalls (λ name. 1) (λ name. 0) → ⊥
one_falls h = omega (arith, h.each [])

greatest_count : AreCounts (λ name. 18446744073709551615)
greatest_count = record { each = λ name. omega arith }

above_greatest : AreCounts (λ name. 18446744073709551616) → ⊥
above_greatest h = omega (arith, h.each [])

-- ---- parts of three bytes
front : IsProperPrefix (1 ∷ 2 ∷ 3 ∷ []) (1 ∷ 2 ∷ [])
front = record { rest = 3 ∷ []; is = refl; proper = omega arith }

nothing : IsProperPrefix (1 ∷ 2 ∷ 3 ∷ []) []
nothing = record { rest = 1 ∷ 2 ∷ 3 ∷ []; is = refl; proper = omega arith }

long : (bytes part rest : List ℕ) → bytes ≡ part ++ rest → length bytes ≡ length part + length rest
long bytes part rest is = ap length is ∙ length-append part rest

not_whole : IsProperPrefix (1 ∷ 2 ∷ 3 ∷ []) (1 ∷ 2 ∷ 3 ∷ []) → ⊥
not_whole h = omega (arith, long (1 ∷ 2 ∷ 3 ∷ []) (1 ∷ 2 ∷ 3 ∷ []) h.rest h.is, h.proper)

not_of_none : IsProperPrefix [] [] → ⊥
not_of_none h = omega (arith, long [] [] h.rest h.is, h.proper)

not_front : IsProperPrefix (1 ∷ 2 ∷ 3 ∷ []) (1 ∷ 3 ∷ []) → ⊥
not_front h = cc

-- ---- what a sink that held one byte got of two
got_first : GrowsByPart (9 ∷ []) (9 ∷ 1 ∷ []) (1 ∷ 2 ∷ [])
got_first = record { part = 1 ∷ []; rest = 2 ∷ []; is = refl; grown = refl; proper = inr (omega arith) }

got_none : GrowsByPart (9 ∷ []) (9 ∷ []) (1 ∷ 2 ∷ [])
got_none = record { part = []; rest = 1 ∷ 2 ∷ []; is = refl; grown = refl; proper = inr (omega arith) }

-- no byte was to be got
got_nothing : GrowsByPart (9 ∷ []) (9 ∷ []) []
got_nothing = record { part = []; rest = []; is = refl; grown = refl; proper = inl refl }

not_all : GrowsByPart (9 ∷ []) (9 ∷ 1 ∷ 2 ∷ []) (1 ∷ 2 ∷ []) → ⊥
not_all h =
    let whole = long (1 ∷ 2 ∷ []) h.part h.rest h.is in
    let grown = long (9 ∷ 1 ∷ 2 ∷ []) (9 ∷ []) h.part h.grown in
    omega (arith, whole, grown, h.proper)

not_others : GrowsByPart (9 ∷ []) (1 ∷ []) (1 ∷ 2 ∷ []) → ⊥
not_others h = let grown = long (1 ∷ []) (9 ∷ []) h.part h.grown in cc
