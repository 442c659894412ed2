-- The program's enclosures as pairs of whole numbers.
use Rattle.std.specs.Prelude.{ℕ, List, map, get_or, pos}
use Rattle.frac_scaled.specs.Enclosures.{Enclosure}
use Rattle.enclosure.specs.declared.types.Enc.{Enc}

-- the pair of an enclosure
abbrev pub pair : Enc → Enclosure
pair a = record { mid = a.mid; rad = a.rad }

-- the pair at an index of a list, and that of 0 past its end
abbrev pub pair_at : List Enc → ℕ → Enclosure
pair_at xs i = get_or (map pair xs) i (record { mid = pos 0; rad = pos 0 })
