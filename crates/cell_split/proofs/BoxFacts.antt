-- The box of a cell, from the ends of its parts.
use Rattle.std.proofs.Common.{◌≡◌, ℕ, ℤ, List, length}
use Rattle.cell_split.specs.Parts.{AreParts, AreSized}
use Rattle.cell_split.proofs.CellLaws.{part_inside}

pub sized : (ends : List ℤ) (ls : List (List ℤ)) (k : ℕ) (chosen : List ℕ) → length ends ≡ length ls → AreParts ls k chosen → AreSized ends ls chosen
sized ends ls k chosen e h = record { count = e; long = h.long; inside = λ i l. rw (h.each i l) (part_inside ls k i) }
