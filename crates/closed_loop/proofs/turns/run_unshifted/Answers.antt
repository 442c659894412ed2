use Rattle.std.proofs.Common.{◌≡◌, ◌∙◌, ◌++◌, length, ap, le_refl, refl, arith, option_map}
use Rattle.std.specs.Prelude.{OnOk, IfErr}
use Rattle.mat_int.specs.Matrix.{Matrix}
use Rattle.qp_model.specs.problem.Parts.{design_of}
use Rattle.closed_loop.specs.Answers.{LieInside}
use Rattle.closed_loop.specs.Under.{unshifted_by}
use Rattle.closed_loop.specs.Shows.{LoopShows}
use Rattle.closed_loop.specs.declared.fault.LoopFault.TheVariants.{Memory}
use Rattle.closed_loop.proofs.Showing.{out_before, unmet, other, unshifted_matrix}
use Rattle.closed_loop.proofs.turns.run_unshifted.Goals as goal

pub returns-in_err-shifts : goal.returns-in_err-shifts
returns-in_err-shifts g c =
    let d = design_of c.args.design.now in
    let n = g.M.ControlMachine.looping c.args.machine.now in
    let start = c.args.start.now in
    let got = g.O.Sink.got c.args.out.now in
    let faults = g.O.Sink.faults c.args.out.now in
    let r = c.from_residual.result in
    let is = c.from_residual.ensures.1 in
    let states = unshifted_by d n start in
    record {
      inside = unmet r _ _ is;
      put = unmet r _ _ is;
      refused = out_before n c.args.entry states c.args.turns got faults r is;
      quiet = λ coordinate e. absurd (other r Memory 1 coordinate is (λ same. cc) e);
      no_fewer = le_refl faults;
      same = refl;
    }

pub run_turns-requires-clause-width : goal.run_turns-requires-clause-width
run_turns-requires-clause-width g c = λ l. absurd (omega (arith, l, ap (λ (m : Matrix). length m.rows) (c.in_ok-shifts.ensures.rows ∙ c.new-none.ensures)))

pub run_turns-requires-clause-shifts : goal.run_turns-requires-clause-shifts
run_turns-requires-clause-shifts g c = λ k i. rw (c.in_ok-shifts.ensures.rows, c.new-none.ensures) (omega arith)

pub returns : goal.returns
returns g c =
    let d = design_of c.args.design.now in
    let n = g.M.ControlMachine.looping c.args.machine.now in
    let start = c.args.start.now in
    let entry = c.args.entry in
    let turns = c.args.turns in
    let old = g.O.Sink.got c.args.out.now in
    let new = g.O.Sink.got c.run_turns.new.out in
    let before = g.O.Sink.faults c.args.out.now in
    let now = g.O.Sink.faults c.run_turns.new.out in
    let r = c.run_turns.result in
    let is = c.in_ok-shifts.ensures.rows ∙ c.new-none.ensures in
    record {
      inside = unshifted_matrix d n entry start _ _ is (λ states lines. OnOk r (LieInside n.controller states turns)) c.run_turns.ensures.inside;
      put = unshifted_matrix d n entry start _ _ is (λ states lines. OnOk r (new ≡ option_map (λ o. o ++ lines turns) old)) c.run_turns.ensures.put;
      refused = unshifted_matrix d n entry start _ _ is (λ states lines. IfErr r (LoopShows n.controller states lines turns old new before now)) c.run_turns.ensures.refused;
      quiet = c.run_turns.ensures.quiet;
      no_fewer = c.run_turns.ensures.no_fewer;
      same = c.run_turns.ensures.same;
    }
