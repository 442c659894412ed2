-- The script of `play`, and what it prints.
use Rattle.std.proofs.Common.{inl, inr, ℕ, List, Option, refl, ap, arith}
use Rattle.io_edge.specs.declared.sink.Sink.{Ghosts as Screen}
use Rattle.mat_int.specs.Matrix.{Matrix}
use Rattle.mac_listing.specs.Listing.{Instructions}
use Rattle.command_line.specs.Limit.{file_limit}
use Rattle.command_line.specs.Answers.{IsFileRefused}
use Rattle.command_line.specs.Script.{ends}
use Rattle.command_line.specs.Does.{IsTelling, Prints}
use Rattle.command_line.proofs.Doing.{IsRefusal, done_telling, sort_of, plain_refusal}
use Rattle.command_line.proofs.Gathering.{whole}
use Rattle.command_line.proofs.Following.{IsSoundWork}
use Rattle.command_line.specs.declared.status.Status.{Status}
use Rattle.command_design_files.proofs.Stopping.{text_refused}
use Rattle.plan_lines.specs.Making.{PrintsRecords}
use Rattle.plan_lines.proofs.Acting.{records_ended}
use Rattle.command_play.specs.Texts.{ListingWrong}
use Rattle.command_play.specs.Plays.{PlaysCall}
use Rattle.command_play.specs.Making.{making_of_runs}
use Rattle.command_play.specs.Play.{play_act, play_states, play_work, play_deeds}
use Rattle.command_play.proofs.RunLines.{plays_told}

listing_refused : (file : ℕ) (content : Option (List ℕ)) (s : Status) → IsFileRefused file_limit file (ListingWrong file) content s → IsRefusal s
listing_refused file content s (inl long) = plain_refusal s (ap sort_of long.is)
listing_refused file content s (inr wrong) = plain_refusal s (ap sort_of wrong.right.2)

plays_telling : (l : Instructions) (m : Matrix) (s : Status) → PlaysCall l m s → IsTelling s
plays_telling l m s (inl outside) = (plain_refusal s (ap sort_of outside.is)).telling
plays_telling l m s (inr both) = elim both.1 [ inl trapped ↦ (plain_refusal s (ap sort_of trapped.is)).telling | inr done ↦ done_telling s done.0 ]

pub play_sound : IsSoundWork play_work
play_sound = record {
  sound = (omega arith, listing_refused 1, whole play_states, λ l. (omega arith, text_refused 2, whole (λ m. ends (play_act l m)), plays_telling l));
  first = inl refl;
}

pub play_ended : (l : Instructions) (m : Matrix) {O : Type 0} (screen : Screen O) (out now : O) (s : Status) → PrintsRecords screen (making_of_runs l) m out now s → Prints screen play_deeds out now s (play_act l m)
play_ended l m screen = records_ended play_deeds (plays_told l m) screen
