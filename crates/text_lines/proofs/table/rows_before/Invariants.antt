use Rattle.std.proofs.Common.{◌≡◌, take}
use Rattle.text_lines.specs.Blocks.{blocks_of, total_rows}
use Rattle.text_lines.proofs.table.rows_before.Given as goal

abbrev pub invariant-loop-i : goal.invariant-loop-i
invariant-loop-i l = l.rows ≡ total_rows (take l.i (blocks_of l.blocks))
