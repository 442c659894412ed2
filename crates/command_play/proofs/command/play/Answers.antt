use Rattle.std.proofs.Common.{◌≡◌, ◌∙◌, ap, refl, sym}
use Rattle.mac_listing.specs.Listing.{Instructions}
use Rattle.command_line.proofs.Following.{follows, stopped, went_on, acted, printed}
use Rattle.plan_lines.proofs.LineByLine.{ok_both}
use Rattle.command_play.specs.Play.{play_work}
use Rattle.command_play.proofs.Playing.{play_sound, play_ended}
use Rattle.command_play.proofs.command.play.Goals as goal

-- the listing's file ends it
pub returns-in-Err : goal.returns-in-Err
returns-in-Err g c =
    let did = c.read_listing_file.ensures in
    follows play_work play_sound (stopped did.passes (rw c.at.ensures at c.in-Err.ensures.ends))

-- it holds a listing, and the states' file ends it
pub returns : goal.returns
returns g c =
    let kept = c.in-Ok.ensures in
    let did = c.read_states_file.ensures.read in
    follows play_work play_sound
    (went_on kept.passes (rw c.at.ensures at kept.right)
    (stopped did.passes
    (rw (ap (λ (k : Instructions). k.states) c.parts.ensures.value, c.at-2.ensures) at c.in-Err-read_states_file.ensures.read.ends)))

-- the states are right, too
pub returns-in-Ok-read_states_file : goal.returns-in-Ok-read_states_file
returns-in-Ok-read_states_file g c =
    let l = c.in-Ok.listing in
    let m = c.in-Ok-read_states_file.states in
    let kept = c.in-Ok.ensures in
    let did = c.read_states_file.ensures.read in
    follows play_work play_sound
    (went_on kept.passes (rw c.at.ensures at kept.right)
    (went_on did.passes
    (rw (ap (λ (k : Instructions). k.states) c.parts.ensures.value, c.at-2.ensures) at c.in-Ok-read_states_file.ensures.read.right)
    (acted (printed tt (play_ended l m g.O.Sink c.args.out.now c.print_prepared.new.out c.print_prepared.result
    (c.print_prepared.ensures l c.player_of.ensures)) refl))))

-- and as wide as those of the machine
pub print_prepared-requires-clause-size : goal.print_prepared-requires-clause-size
print_prepared-requires-clause-size g c =
    let l = c.in-Ok.listing in
    let m = c.in-Ok-read_states_file.states in
    let width = c.in-Ok-read_states_file.ensures.width ∙ ap (λ (k : Instructions). k.states) c.parts.ensures.value in
    ok_both c.player_of.result (λ p. p.machine.listing ≡ l) (λ p. p.machine.listing ≡ l) (λ p. m.cols ≡ p.machine.listing.states) (λ p is same. width ∙ ap (λ (k : Instructions). k.states) (sym is)) c.player_of.ensures c.player_of.ensures
