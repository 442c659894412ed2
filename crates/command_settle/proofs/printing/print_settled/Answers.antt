use Rattle.std.proofs.Common.{inr, refl, le_refl}
use Rattle.qp_model.specs.problem.Parts.{design_of}
use Rattle.settle_check.specs.CertificateText.{certificate_numbers}
use Rattle.command_settle.proofs.Answering.{put_ends, put_prints, put_or_not, untold_ends, untold_prints, untold_fault}
use Rattle.command_settle.proofs.printing.print_settled.Goals as goal

pub returns-in-Ok : goal.returns-in-Ok
returns-in-Ok g c =
    let d = design_of c.args.design.now in
    let k = c.args.controller.now in
    let f = certificate_numbers c.args.certificate.now in
    let range = c.args.range.now in
    let told = c.in-Ok.ensures in
    let put = rw c.deref.ensures.value at c.put_text.ensures in
    let s = c.put_text.result in
    let bytes = c.in-Ok.text.items in
    record {
      ends = put_ends d k f range s bytes told.text told.settles told.passes told.answer put.only;
      printed = put_prints d k f range s bytes told.text told.settles told.passes told.answer (g.O.Sink.got c.args.out.now) (g.O.Sink.got c.put_text.new.out) put.only put.done put.cut;
      quiet = put_or_not s put.only;
      failed = put.failed;
      no_fewer = put.no_fewer;
    }

pub returns-in-Err : goal.returns-in-Err
returns-in-Err g c =
    let d = design_of c.args.design.now in
    let k = c.args.controller.now in
    let f = certificate_numbers c.args.certificate.now in
    let range = c.args.range.now in
    let s = c.in-Err.status in
    let ends = c.in-Err.ensures.ends in
    record {
      ends = untold_ends d k f range s ends;
      printed = untold_prints d k f range s (g.O.Sink.got c.args.out.now) ends;
      quiet = inr (inr refl);
      failed = λ is. untold_fault d k f range s ends is;
      no_fewer = le_refl (g.O.Sink.faults c.args.out.now);
    }
