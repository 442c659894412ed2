use Rattle.command_line.proofs.Following.{stopped, went_on, follows}
use Rattle.command_split.specs.Split.{split_work}
use Rattle.command_split.proofs.Written.{split_sound}
use Rattle.command_split.proofs.command.split.Goals as goal

-- the design's file ends it
pub returns-in-Err : goal.returns-in-Err
returns-in-Err g c =
    let is = rw c.at.ensures at c.in-Err.ensures in
    follows split_work split_sound (stopped is.passes is.ends)

-- the file of cuts does
pub returns : goal.returns
returns g c =
    let first = rw c.at.ensures at c.in-Ok.ensures in
    let is = rw c.at-2.ensures at c.in-Err-read_cuts_file.ensures.read in
    follows split_work split_sound
    (went_on first.passes first.right (stopped is.passes is.ends))

-- both are right
pub returns-in-Ok-read_cuts_file : goal.returns-in-Ok-read_cuts_file
returns-in-Ok-read_cuts_file g c =
    let first = rw c.at.ensures at c.in-Ok.ensures in
    let is = rw c.at-2.ensures at c.in-Ok-read_cuts_file.ensures.read in
    follows split_work split_sound
    (went_on first.passes first.right
    (went_on is.passes is.right c.after_cuts.ensures))
