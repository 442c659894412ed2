use Rattle.text_lines.proofs.Blocks.{found_here, found_later}
use Rattle.text_lines.proofs.table.place_in.Goals as goal

pub returns-then-left-rows : goal.returns-then-left-rows
returns-then-left-rows c = found_here c.args.blocks.now c.loop-key.key-index _ c.loop-key.left _ c.loop-key-test.true c.if-left-rows.true c.loop-key.invariant

pub loop-key-preserved : goal.loop-key-preserved
loop-key-preserved c = found_later c.args.blocks.now c.loop-key.key-index _ c.loop-key.left _ c.loop-key-test.true c.if-left-rows.false c.loop-key.invariant
