use Rattle.std.proofs.Common.{◌∷◌, [], codes, string_bytes}
use Rattle.qp_model.specs.machine.Controller.{numbers}
use Rattle.c_writer.specs.declared.measured.Part.TheVariants.{High, Low}
use Rattle.c_writer.specs.Terms.{entry_base_by}
use Rattle.c_writer.specs.Measured.{kinds_in}
use Rattle.c_writer.proofs.Texts.{blocks_more}
use Rattle.c_writer.proofs.start.push_entry_base_parts.Goals as goal

pub returns : goal.returns
returns c =
    let n = numbers c.args.from.now.c.now in
    blocks_more (kinds_in c.args.from.now) (codes "    ") (entry_base_by n High c.args.j ∷ []) (entry_base_by n Low c.args.j ∷ []) (string_bytes c.args.text.now) (string_bytes c.push_entry_base.new.text)
    (string_bytes c.push_entry_base-2.new.text) c.in_ok-push_entry_base.ensures c.in_ok-push_entry_base-2.ensures
