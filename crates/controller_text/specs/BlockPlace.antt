-- Where a block stands among the others.
use Rattle.std.specs.Prelude.{ℕ, List, [], ◌∷◌}
use Rattle.controller_text.specs.declared.block.Block.{Block}
use Rattle.controller_text.specs.declared.block.Block.TheVariants.{Version, Size, Bits, Steps, Clamp, Words, Exponents, Low, High, StateGains, Offsets, DualGains, PlanRows, StateRows, Bounds, End}

-- its index in the table
abbrev pub place_in_table : Block → ℕ
place_in_table Version = 0
place_in_table Size = 1
place_in_table Bits = 2
place_in_table Steps = 3
place_in_table Clamp = 4
place_in_table Words = 5
place_in_table Exponents = 6
place_in_table Low = 7
place_in_table High = 8
place_in_table StateGains = 9
place_in_table Offsets = 10
place_in_table DualGains = 11
place_in_table PlanRows = 12
place_in_table StateRows = 13
place_in_table Bounds = 14
place_in_table End = 15

-- the blocks in their order
abbrev pub all_blocks : List Block
all_blocks =
    Version ∷ Size ∷ Bits ∷ Steps ∷ Clamp ∷ Words ∷ Exponents ∷ Low ∷ High ∷ StateGains ∷ Offsets ∷ DualGains ∷ PlanRows ∷ StateRows ∷ Bounds ∷ End ∷ []
