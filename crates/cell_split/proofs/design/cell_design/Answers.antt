use Rattle.cell_split.proofs.DesignFacts.{new_box}
use Rattle.cell_split.proofs.design.cell_design.Goals as goal

pub with_box-requires-clause-right : goal.with_box-requires-clause-right
with_box-requires-clause-right c =
    new_box c.parts.result.now c.args.cuts.now c.args.cell c.in_ok-held.held c.parts.ensures.sound (rw c.parts.ensures.value c.requires.cuts) c.requires.cell
    (rw c.parts.ensures.value c.in_ok-held.ensures.low) (rw c.parts.ensures.value c.in_ok-held.ensures.high)
