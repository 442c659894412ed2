-- What `play` does with its two files.
use Rattle.mat_int.specs.Matrix.{Matrix}
use Rattle.mac_listing.specs.Listing.{Instructions}
use Rattle.command_line.specs.Deeds.{Deeds}
use Rattle.command_line.specs.Script.{Act, Script, ends, reads, printing_act, Work, printing_work, deeds_of_work}
use Rattle.command_files.specs.Reading.{states_kind}
use Rattle.command_play.specs.Texts.{listing_kind}
use Rattle.command_play.specs.Plays.{PlaysCall}
use Rattle.command_play.specs.Printing.{MayPrint, PlaysPrint, TellsTrapLater}

-- the first state outside the box is told, or the lines of the runs are printed until one traps
abbrev pub play_act : Instructions → Matrix → Act
play_act l m = printing_act (PlaysCall l m) (MayPrint l m) (PlaysPrint l m)

abbrev pub play_states : Instructions → Script
play_states l = reads 2 (states_kind l.states) (λ m. ends (play_act l m))

abbrev pub play_script : Script
play_script = reads 1 listing_kind play_states

-- ---- its row of the table of commands
abbrev pub play_work : Work
play_work = printing_work play_script TellsTrapLater

abbrev pub play_deeds : Deeds
play_deeds = deeds_of_work play_work
