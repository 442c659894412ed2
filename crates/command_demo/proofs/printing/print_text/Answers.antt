use Rattle.std.proofs.Common.{arith}
use Rattle.qp_model.specs.bounds.Printed.{printed}
use Rattle.command_line.proofs.Counts.{rose_later}
use Rattle.command_demo.proofs.PrintedText.{report_put, report_fault, plans_end}
use Rattle.command_demo.proofs.printing.print_text.Goals as goal

pub returns-in-Ok-put : goal.returns-in-Ok-put
returns-in-Ok-put g c =
    let m = c.args.states.now in
    let s = c.print_lines.result in
    let told = rw (c.deref.ensures.value, c.in-Ok-report_text.ensures) at c.in-Ok-put.ensures.ok in
    let did = rw c.in-Ok.ensures at c.print_lines.ensures in
    let end = plans_end g.O.Sink c.args.controller.now m c.put.new.self c.print_lines.new.out s c.requires.inside did in
    record {
      only = end.only;
      printed =
          report_put c.args.controller.now (printed c.args.bounds.now) m s (g.O.Sink.got c.args.out.now) (g.O.Sink.got c.put.new.self) (g.O.Sink.got c.print_lines.new.out) c.requires.some told end.printed;
      failed = λ is.
          rose_later (g.O.Sink.faults c.args.out.now) (g.O.Sink.faults c.put.new.self) (g.O.Sink.faults c.print_lines.new.out) c.put.ensures.no_fewer did.no_fewer (end.failed is);
      no_fewer = omega (arith, c.put.ensures.no_fewer, did.no_fewer);
    }

pub returns-in-Err-clause-printed : goal.returns-in-Err-clause-printed
returns-in-Err-clause-printed g c =
    let told = rw (c.deref.ensures.value, c.in-Ok-report_text.ensures) at c.in-Err.ensures.err in
    report_fault c.args.controller.now (printed c.args.bounds.now) c.args.states.now (g.O.Sink.got c.args.out.now) (g.O.Sink.got c.put.new.self) told
