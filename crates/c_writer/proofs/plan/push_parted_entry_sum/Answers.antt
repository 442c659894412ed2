use Rattle.std.proofs.Common.{string_bytes}
use Rattle.qp_model.specs.machine.Controller.{numbers}
use Rattle.c_writer.specs.declared.measured.Part.TheVariants.{High, Low}
use Rattle.c_writer.specs.Terms.{entry_sum_by}
use Rattle.c_writer.proofs.Texts.{both_text}
use Rattle.c_writer.proofs.plan.push_parted_entry_sum.Goals as goal

pub returns : goal.returns
returns c =
    let n = numbers c.args.from.now.c.now in
    both_text (entry_sum_by n High c.args.j) (entry_sum_by n Low c.args.j) (string_bytes c.args.text.now) (string_bytes c.push_entry_sum.new.text) (string_bytes c.push_str.new.self)
    (string_bytes c.push_entry_sum-2.new.text) (string_bytes c.push_str-2.new.self) c.in_ok-push_entry_sum.ensures c.in_ok-push_str.ensures.bytes c.in_ok-push_entry_sum-2.ensures c.in_ok-push_str-2.ensures.bytes
