use Rattle.std.proofs.Common.{refl, le_refl}
use Rattle.command_line.specs.Commands.{AreOf, IsUsage}
use Rattle.command_line.specs.Does.{Does}
use Rattle.command_line.specs.declared.words.Command.TheVariants.{Generate, Stay, Play, Lean, LeanStay, Split, Serve, C, Settle}
use Rattle.command_line.proofs.OneCommand.{for_each}
use Rattle.command_line.proofs.Doing.{none_falls}
use Rattle.command_c.proofs.Written.{compiled}
use Rattle.command_make.proofs.Written.{generate_left, stay_left, lean_left, lean_stay_left}
use Rattle.command_play.proofs.Solved.{plays_as_solved}
use Rattle.command_serve.proofs.Held.{serves_held}
use Rattle.command_settle.proofs.Settled.{settled}
use Rattle.command_split.proofs.Written.{split_left}
use Rattle.command_run.specs.Table.{deeds_of}
use Rattle.command_run.proofs.command.run.Goals as goal

-- what is said of the command that was run is said of each that the arguments are those of
pub returns-in-Some : goal.returns-in-Some
returns-in-Some g c =
    let words = c.args.words.now in
    let held = g.S.Store.held c.args.store.now in
    let left = g.S.Store.held c.answer.new.store in
    let got = g.O.Sink.got c.args.out.now in
    let got_now = g.O.Sink.got c.answer.new.out in
    let s = c.answer.result in
    let command = c.in-Some.command in
    let is : AreOf command words = c.in-Some.ensures in
    let does = c.answer.ensures in
    let each = for_each words command is (λ d. Does g.S.Store g.O.Sink words (deeds_of d) c.args.store.now c.answer.new.store c.args.out.now c.answer.new.out s) does in
    record {
      generated = λ that is. generate_left words s held left is (each Generate that).leaves;
      stayed = λ disturbed that is. stay_left disturbed words s held left is (each (Stay disturbed) that).leaves;
      leaned = λ that is. lean_left words s held left is (each Lean that).leaves;
      kept = λ disturbed that is. lean_stay_left disturbed words s held left is (each (LeanStay disturbed) that).leaves;
      split = λ that is. split_left words s held left is (each Split that).leaves;
      served = λ that. let served = each Serve that in serves_held words held s got got_now served.called served.shows;
      played = λ that. let played = each Play that in plays_as_solved words held s got got_now played.called played.shows;
      compiled = λ that is. compiled words s held left is (each C that).leaves;
      settled = λ disturbed that. let told = each (Settle disturbed) that in settled disturbed words held s got got_now told.called told.shows;
      usage = (λ e. absurd (does.telling.usage e), λ u. absurd (u command is));
      unused = λ u. absurd (u command is);
      called = λ d that. (each d that).called;
      no_inner_memory = λ file. (does.telling.text file, does.telling.controller file);
      complete = λ d that. (each d that).complete;
      prints = λ d that. (each d that).shows;
      quiet = λ d that. (each d that).quiet;
      leaves = λ d that. (each d that).leaves;
      held = λ d that. (each d that).held;
      no_file = λ d that. (each d that).unused;
      read_fault = λ d that. (each d that).read_fault;
      write_fault = λ d that. (each d that).write_fault;
      reads = does.reads;
      writes = does.writes;
      no_fewer = does.no_fewer;
    }

-- the arguments are those of no command
pub returns-in-None : goal.returns-in-None
returns-in-None g c =
    let is : IsUsage c.args.words.now = c.in-None.ensures in
    record {
      generated = λ that. absurd (is Generate that);
      stayed = λ disturbed that. absurd (is (Stay disturbed) that);
      leaned = λ that. absurd (is Lean that);
      kept = λ disturbed that. absurd (is (LeanStay disturbed) that);
      split = λ that. absurd (is Split that);
      served = λ that. absurd (is Serve that);
      played = λ that. absurd (is Play that);
      compiled = λ that. absurd (is C that);
      settled = λ disturbed that. absurd (is (Settle disturbed) that);
      usage = (λ e. is, λ u. refl);
      unused = λ u. (refl, refl);
      called = λ d that. absurd (is d that);
      no_inner_memory = λ file. (λ e. cc, λ e. cc);
      complete = λ d that. absurd (is d that);
      prints = λ d that. absurd (is d that);
      quiet = λ d that. absurd (is d that);
      leaves = λ d that. absurd (is d that);
      held = λ d that. absurd (is d that);
      no_file = λ d that. absurd (is d that);
      read_fault = λ d that. absurd (is d that);
      write_fault = λ d that. absurd (is d that);
      reads = none_falls (g.S.Store.read_faults c.args.store.now);
      writes = none_falls (g.S.Store.write_faults c.args.store.now);
      no_fewer = le_refl (g.O.Sink.faults c.args.out.now);
    }
