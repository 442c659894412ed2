use Rattle.std.proofs.Common.{◌≡◌, ◌++◌, ◌∙◌, refl, subst, sym, ap, rules, ℕ, Option, Some, None, option_map}
use Rattle.std.specs.Prelude.{OnOk, IfErr}
use Rattle.mat_int.specs.Matrix.{Matrix}
use Rattle.packed_rows.specs.Walk.{Walk}
use Rattle.qp_model.specs.problem.Parts.{design_of}
use Rattle.closed_loop.specs.Looping.{turn_size_by}
use Rattle.closed_loop.specs.Answers.{LieInside}
use Rattle.command_loop.specs.Loop.{course_by}
use Rattle.command_loop.specs.Printing.{AreRowsFor, AreShiftsFor, RecordShows, rows_along}
use Rattle.command_loop.proofs.Looping.{said, ok_narrow, said_quietly}
use Rattle.command_loop.proofs.records.run_record.Goals as goal

pub returns-in-None : goal.returns-in-None
returns-in-None g c =
    let d = design_of c.args.design.now in
    let a = g.M.ControlMachine.looping c.args.machine.now in
    let size = turn_size_by d a in
    let n = a.controller in
    let entry = c.args.entry in
    let start = c.args.start.now in
    let turns = c.args.turns in
    let got = g.O.Sink.got in
    let old = got c.args.out.now in
    let new = got c.run_loop.new.out in
    let r = c.run_loop.result in
    let ends = c.run_loop.ensures.ends in
    let is : rows_along c.args.shifts.now ≡ None = ap rows_along (let found : c.args.shifts.now ≡ None = search rules in found) in
    record {
      narrow = ok_narrow (size) r ends.wide;
      inside = subst (λ (v : Option Matrix). OnOk r (LieInside n ((course_by d a v).states start) turns)) (sym is) ends.inside;
      put = subst (λ (v : Option Matrix). OnOk r (new ≡ option_map (λ o. o ++ (course_by d a v).lines entry start turns) old)) (sym is) ends.put;
      shows = subst (λ (v : Option Matrix). IfErr r (RecordShows size n (course_by d a v) entry start turns old new)) (sym is)
          (said size n (course_by d a None) entry start old new _ _ _ (ap got) turns r ends);
      quiet = said_quietly (size) r ends.wide c.args.out.now c.run_loop.new.out ends.wide_put ends.quiet;
      failed = ends.failed;
      no_fewer = c.run_loop.ensures.no_fewer;
      same = c.run_loop.ensures.same;
      shifts = refl;
    }

pub returns-in-Some : goal.returns-in-Some
returns-in-Some g c =
    let d = design_of c.args.design.now in
    let a = g.M.ControlMachine.looping c.args.machine.now in
    let size = turn_size_by d a in
    let n = a.controller in
    let entry = c.args.entry in
    let start = c.args.start.now in
    let w : Walk = c.in-Some.shifts in
    let m = w.rows in
    let l = course_by d a (Some m) in
    let got = g.O.Sink.got in
    let old = got c.args.out.now in
    let new = got c.run_loop_under.new.out in
    let r = c.run_loop_under.result in
    let ends = c.run_loop_under.ensures.ends in
    let is : rows_along c.args.shifts.now ≡ Some m = ap rows_along (let found : c.args.shifts.now ≡ Some w = search rules in found) in
    let sized : AreRowsFor n.states c.args.turns m = subst (λ (v : Option Matrix). AreShiftsFor n.states c.args.turns v) is c.requires.shifts in
    record {
      narrow = ok_narrow (size) r ends.wide;
      inside = subst (λ (v : Option Matrix). OnOk r (LieInside n ((course_by d a v).states start) c.args.turns)) (sym is)
          (subst (λ (k : ℕ). OnOk r (LieInside n (l.states start) k)) sized.rows ends.inside);
      put = subst (λ (v : Option Matrix). OnOk r (new ≡ option_map (λ o. o ++ (course_by d a v).lines entry start c.args.turns) old)) (sym is)
          (subst (λ (k : ℕ). OnOk r (new ≡ option_map (λ o. o ++ l.lines entry start k) old)) sized.rows ends.put);
      shows = subst (λ (v : Option Matrix). IfErr r (RecordShows size n (course_by d a v) entry start c.args.turns old new)) (sym is)
          (subst (λ (k : ℕ). IfErr r (RecordShows size n l entry start k old new)) sized.rows
          (said size n l entry start old new _ _ _ (ap got) _ r ends));
      quiet = said_quietly (size) r ends.wide c.args.out.now c.run_loop_under.new.out ends.wide_put ends.quiet;
      failed = ends.failed;
      no_fewer = c.run_loop_under.ensures.no_fewer;
      same = c.run_loop_under.ensures.same;
      shifts = ap Some c.run_loop_under.ensures.rows ∙ sym is;
    }
