use Rattle.std.proofs.Common.{◌≡◌, ◌+◌, ◌++◌, ◌∙◌, refl, le_refl, below_more, arith, ℕ, option_map, Err, ap}
use Rattle.mat_int.specs.Matrix.{row_of}
use Rattle.qp_model.specs.problem.Parts.{design_of}
use Rattle.closed_loop.specs.Looping.{turn_size_by}
use Rattle.closed_loop.specs.Answers.{LieInside}
use Rattle.command_loop.specs.Loop.{course_by}
use Rattle.command_loop.specs.Printing.{RecordShows, rows_along}
use Rattle.command_loop.proofs.Looping.{said_along, put_none, put_more, ends, printed, quiet, failed}
use Rattle.command_loop.proofs.records.print_records.Goals as goal

pub loop-i-init : goal.loop-i-init
loop-i-init g c = record {
  rows = c.in-Ok.ensures.rows;
  next = c.in-Ok.ensures.next;
  shifts = refl;
  same = refl;
  narrow = λ h. absurd (omega (arith, h));
  stays = λ e h. absurd (omega (arith, h));
  got = put_none 0 (g.M.ControlMachine.looping c.args.machine.now).controller (course_by (design_of c.args.design.now) (g.M.ControlMachine.looping c.args.machine.now) (rows_along c.args.shifts.now)) c.args.states.now c.args.turns
      (g.O.Sink.got c.args.out.now);
  first = λ e. refl;
  faults = le_refl (g.O.Sink.faults c.args.out.now);
}

pub returns-in-Err : goal.returns-in-Err
returns-in-Err g c =
    let d = design_of c.args.design.now in
    let a = g.M.ControlMachine.looping c.args.machine.now in
    let size = turn_size_by d a in
    let n = a.controller in
    let m = c.args.states.now in
    let v = rows_along c.args.shifts.now in
    let l = course_by d a v in
    let got = g.O.Sink.got in
    let faults = g.O.Sink.faults in
    let i = c.loop-i.i in
    let fault = c.in-Err.fault in
    let s = c.loop_status.result in
    let is = c.loop_status.ensures in
    let far = c.loop-i.invariant in
    let mid = c.loop-i.out in
    let now = c.run_record.new.out in
    let there : c.row.result.now ≡ row_of m i = c.row.ensures.value ∙ rw (far.rows, far.next) at c.step.ensures.row in
    let shown : RecordShows size n l (i + 1) (row_of m i) c.args.turns (got mid) (got now) fault =
    said_along (λ k s w. RecordShows (turn_size_by d k) k.controller (course_by d k w) (i + 1) s c.args.turns (got mid) (got now) fault) (g.M.ControlMachine.looping c.loop-i.machine) a c.row.result.now (row_of m i)
    (rows_along c.loop-i.shifts) v far.same there far.shifts c.in-Err.ensures.shows in
    record {
      ends = ends size n l m c.args.turns i fault s (got mid) (got now) is (omega arith) far.stays shown;
      printed = printed size n l m c.args.turns i fault s (got c.args.out.now) (got mid) (got now) is (omega arith) far.stays far.narrow far.got shown;
      quiet = λ done memory cut leaving. quiet size n l m c.args.turns i fault s (got mid) (got now) c.args.out.now mid now is far.narrow far.first c.in-Err.ensures.quiet shown memory cut leaving;
      failed = failed (i + 1) fault s (faults c.args.out.now) (faults mid) (faults now) is far.faults c.run_record.ensures.no_fewer (λ e. c.in-Err.ensures.failed (ap Err e));
      no_fewer = omega (arith, far.faults, c.run_record.ensures.no_fewer);
    }

pub loop-i-preserved : goal.loop-i-preserved
loop-i-preserved g c =
    let d = design_of c.args.design.now in
    let a = g.M.ControlMachine.looping c.args.machine.now in
    let size = turn_size_by d a in
    let n = a.controller in
    let m = c.args.states.now in
    let v = rows_along c.args.shifts.now in
    let l = course_by d a v in
    let got = g.O.Sink.got in
    let i = c.loop-i.i in
    let there : c.row.result.now ≡ row_of m i = c.row.ensures.value ∙ rw (c.loop-i.invariant.rows, c.loop-i.invariant.next) at c.step.ensures.row in
    let same = c.loop-i.invariant.same in
    let w = rows_along c.loop-i.shifts in
    let along = c.loop-i.invariant.shifts in
    let k = g.M.ControlMachine.looping c.loop-i.machine in
    let row = c.row.result.now in
    record {
      rows = c.step.ensures.rows ∙ c.loop-i.invariant.rows;
      next = omega (arith, c.step.ensures.next, c.loop-i.invariant.next);
      shifts = c.run_record.ensures.shifts ∙ along;
      same = c.run_record.ensures.same ∙ same;
      narrow = λ h. rw same at c.in_default-run_record.ensures.narrow;
      stays = below_more (λ (e : ℕ). LieInside n (l.states (row_of m e)) c.args.turns) i c.loop-i.invariant.stays
          (said_along (λ x s u. LieInside x.controller ((course_by d x u).states s) c.args.turns) k a row (row_of m i) w v same there along c.in_default-run_record.ensures.inside);
      got = put_more size n l m c.args.turns i (got c.args.out.now) (got c.loop-i.out) (got c.run_record.new.out) c.loop-i.invariant.got
          (said_along (λ x s u. got c.run_record.new.out ≡ option_map (λ o. o ++ (course_by d x u).lines (i + 1) s c.args.turns) (got c.loop-i.out)) k a row (row_of m i) w v same there along c.in_default-run_record.ensures.put);
      first = λ e. absurd (omega (arith, e));
      faults = omega (arith, c.loop-i.invariant.faults, c.run_record.ensures.no_fewer);
    }
