use Rattle.std.proofs.Common.{◌≡◌, ◌++◌, All, take, drop, length, option_map}
use Rattle.toml.specs.View.{items_view}
use Rattle.design_files.specs.Numbers.{rows_of}
use Rattle.design_files.proofs.numbers.rows.Given as goal

-- so many rows of one length, of which those so far are followed by the rows of the items that are left
abbrev pub invariant-loop-i : goal.invariant-loop-i
invariant-loop-i l =
    (l.matrix.cols ≡ l.width)
    × (length l.matrix.rows ≡ length l.items)
    × All (λ row. length row ≡ l.width) l.matrix.rows
    × (rows_of (items_view l.items) ≡ option_map (λ rows. take l.i l.matrix.rows ++ rows) (rows_of (items_view (drop l.i l.items))))
