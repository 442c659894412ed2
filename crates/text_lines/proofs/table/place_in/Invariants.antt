use Rattle.std.proofs.Common.{◌≡◌, drop}
use Rattle.std.specs.Prelude.{slice_get}
use Rattle.text_lines.specs.Blocks.{spread, blocks_of}
use Rattle.text_lines.proofs.table.place_in.Given as goal

abbrev pub invariant-loop-key : goal.invariant-loop-key
invariant-loop-key l = slice_get (spread (blocks_of (drop l.key-index l.blocks))) l.left ≡ slice_get (spread (blocks_of l.blocks)) l.index
