use Rattle.std.proofs.Common.{◌≡◌, ◌⊎◌, ◌∙◌, ◌<◌, ◌+◌, ◌++◌, [], length, zero-le, le_refl, refl, sym, arith}
use Rattle.mat_int.specs.Matrix.{row_of}
use Rattle.command_line.proofs.Counts.{rose_later}
use Rattle.command_line.specs.declared.status.Status.TheVariants.{Memory}
use Rattle.plan_lines.specs.Making.{all, short, cut}
use Rattle.plan_lines.proofs.LineByLine.{told_err, told_ok, said_of, none_yet, one_more, line_more, line_cut, no_line}
use Rattle.plan_lines.proofs.records.print_lines.Goals as goal

pub returns-in_default : goal.returns-in_default
returns-in_default g c =
    let p = g.M.PreparedMachine.makes (g.M.PreparedMachine.subject c.args.machine.now) in
    let none = none_yet p.line c.args.states.now (g.O.Sink.got c.args.out.now) in
    record { count = 0; within = zero-le; text = none.text; lines = none.lines; ending = short none.got; no_fewer = le_refl (g.O.Sink.faults c.args.out.now) }

pub returns-then-is_err : goal.returns-then-is_err
returns-then-is_err g c =
    let p = g.M.PreparedMachine.makes (g.M.PreparedMachine.subject c.args.machine.now) in
    let m = c.args.states.now in
    let i = c.loop-i.i in
    let before = c.loop-i.invariant.printed in
    let line = c.deref.result.now in
    let lt : i < length m.rows = omega arith in
    let there : c.row.result.now ≡ row_of m i = c.row.ensures.value ∙ rw (c.loop-i.invariant.rows, c.loop-i.invariant.next) at c.step.ensures.row in
    let this = said_of (λ k. (g.M.PreparedMachine.makes k).line) (g.M.PreparedMachine.subject c.loop-i.machine) (g.M.PreparedMachine.subject c.args.machine.now) c.row.result.now (row_of m i) c.in-Ok-line.line.items line
    c.loop-i.invariant.subject there c.deref.ensures.value c.in-Ok-line.ensures.line in
    let some : 0 < length line = rw c.deref.ensures.value c.in-Ok-line.ensures.some in
    record {
      count = i + 1;
      within = omega (arith, lt);
      text = before.text ++ line;
      lines = one_more p.line m i before.text line before.lines this;
      ending = cut (omega arith)
          (line_cut c.put.result before.text line (g.O.Sink.got c.args.out.now) (g.O.Sink.got c.loop-i.out) (g.O.Sink.got c.put.new.self) (sym c.is_err.ensures.value ∙ c.if-is_err.true) c.put.ensures.err before.got some)
          (rose_later (g.O.Sink.faults c.args.out.now) (g.O.Sink.faults c.loop-i.out) (g.O.Sink.faults c.put.new.self) c.loop-i.invariant.faults c.put.ensures.no_fewer (told_err c.put.result (sym c.is_err.ensures.value ∙ c.if-is_err.true) c.put.ensures.failed));
      no_fewer = omega (arith, c.loop-i.invariant.faults, c.put.ensures.no_fewer);
    }

pub returns-in-Err : goal.returns-in-Err
returns-in-Err g c =
    let p = g.M.PreparedMachine.makes (g.M.PreparedMachine.subject c.args.machine.now) in
    let m = c.args.states.now in
    let i = c.loop-i.i in
    let s = c.in-Err.status in
    let before = c.loop-i.invariant.printed in
    let lt : i < length m.rows = omega arith in
    let there : c.row.result.now ≡ row_of m i = c.row.ensures.value ∙ rw (c.loop-i.invariant.rows, c.loop-i.invariant.next) at c.step.ensures.row in
    let why = said_of (λ k xi line. (s ≡ Memory) ⊎ (g.M.PreparedMachine.makes k).stops (i + 1) xi s) (g.M.PreparedMachine.subject c.loop-i.machine) (g.M.PreparedMachine.subject c.args.machine.now) c.row.result.now (row_of m i) [] []
    c.loop-i.invariant.subject there refl c.in-Err.ensures.ends in
    record {
      count = i;
      within = omega (arith, lt);
      text = before.text;
      lines = before.lines;
      ending = no_line g.O.Sink p m c.args.out.now c.loop-i.out s i before.text lt before.got c.loop-i.invariant.first why;
      no_fewer = c.loop-i.invariant.faults;
    }

pub loop-i-preserved : goal.loop-i-preserved
loop-i-preserved g c =
    let p = g.M.PreparedMachine.makes (g.M.PreparedMachine.subject c.args.machine.now) in
    let m = c.args.states.now in
    let i = c.loop-i.i in
    let line = c.deref.result.now in
    let there : c.row.result.now ≡ row_of m i = c.row.ensures.value ∙ rw (c.loop-i.invariant.rows, c.loop-i.invariant.next) at c.step.ensures.row in
    let this = said_of (λ k. (g.M.PreparedMachine.makes k).line) (g.M.PreparedMachine.subject c.loop-i.machine) (g.M.PreparedMachine.subject c.args.machine.now) c.row.result.now (row_of m i) c.in-Ok-line.line.items line
    c.loop-i.invariant.subject there c.deref.ensures.value c.in-Ok-line.ensures.line in
    let put = told_ok c.put.result (sym c.is_err.ensures.value ∙ c.if-is_err.false) c.put.ensures.ok in
    record {
      rows = c.step.ensures.rows ∙ c.loop-i.invariant.rows;
      next = omega (arith, c.step.ensures.next, c.loop-i.invariant.next);
      subject = c.line.ensures.subject ∙ c.loop-i.invariant.subject;
      size = c.line.ensures.size m.cols c.loop-i.invariant.size;
      printed = line_more p.line m i line (g.O.Sink.got c.args.out.now) (g.O.Sink.got c.loop-i.out) (g.O.Sink.got c.put.new.self) c.loop-i.invariant.printed this put;
      first = λ none. absurd (omega (arith, none));
      faults = omega (arith, c.loop-i.invariant.faults, c.put.ensures.no_fewer);
    }

pub returns : goal.returns
returns g c =
    let m = c.args.states.now in
    let i = c.loop-i.i in
    let before = c.loop-i.invariant.printed in
    let whole : i ≡ length m.rows = omega arith in
    record { count = i; within = omega (arith, whole); text = before.text; lines = before.lines; ending = all whole before.got; no_fewer = c.loop-i.invariant.faults }
