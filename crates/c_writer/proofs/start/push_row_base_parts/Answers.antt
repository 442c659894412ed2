use Rattle.std.proofs.Common.{◌∷◌, [], codes, string_bytes}
use Rattle.qp_model.specs.machine.Controller.{numbers}
use Rattle.c_writer.specs.declared.measured.Part.TheVariants.{High, Low}
use Rattle.c_writer.specs.Terms.{row_base_by}
use Rattle.c_writer.specs.Measured.{kinds_in}
use Rattle.c_writer.proofs.Texts.{blocks_more}
use Rattle.c_writer.proofs.start.push_row_base_parts.Goals as goal

pub returns : goal.returns
returns c =
    let n = numbers c.args.from.now.c.now in
    blocks_more (kinds_in c.args.from.now) (codes "    ") (row_base_by n High c.args.i ∷ []) (row_base_by n Low c.args.i ∷ []) (string_bytes c.args.text.now) (string_bytes c.push_row_base.new.text)
    (string_bytes c.push_row_base-2.new.text) c.in_ok-push_row_base.ensures c.in_ok-push_row_base-2.ensures
