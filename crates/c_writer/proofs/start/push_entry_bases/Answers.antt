use Rattle.std.proofs.Common.{string_bytes, codes}
use Rattle.qp_model.specs.machine.Controller.{numbers}
use Rattle.c_writer.specs.Terms.{entry_base_in}
use Rattle.c_writer.specs.Measured.{kinds_in}
use Rattle.c_writer.proofs.Texts.{block_none, block_more}
use Rattle.c_writer.proofs.start.push_entry_bases.Goals as goal

pub loop-j-init : goal.loop-j-init
loop-j-init c =
    let n = numbers c.args.from.now.c.now in
    block_none (kinds_in c.args.from.now) (codes "    ") (entry_base_in c.args.from.now.parted n) (string_bytes c.args.text.now)

pub loop-j-preserved : goal.loop-j-preserved
loop-j-preserved c =
    let n = numbers c.args.from.now.c.now in
    block_more (kinds_in c.args.from.now) (codes "    ") (entry_base_in c.args.from.now.parted n) c.loop-j.j (string_bytes c.args.text.now) (string_bytes c.loop-j.text)
    (string_bytes c.push_entry_base_lines.new.text) c.loop-j.invariant c.in_ok-push_entry_base_lines.ensures
