use Rattle.std.proofs.Common.{◌∷◌, [], codes, string_bytes}
use Rattle.qp_model.specs.machine.Controller.{numbers}
use Rattle.c_writer.specs.declared.measured.Part.TheVariants.{High, Low}
use Rattle.c_writer.specs.Terms.{gradient_by}
use Rattle.c_writer.specs.Measured.{kinds_in}
use Rattle.c_writer.proofs.Texts.{blocks_more}
use Rattle.c_writer.proofs.rows.push_gradient_parts.Goals as goal

pub returns : goal.returns
returns c =
    let n = numbers c.args.from.now.c.now in
    blocks_more (kinds_in c.args.from.now) (codes "        ") (gradient_by n High c.args.i ∷ []) (gradient_by n Low c.args.i ∷ []) (string_bytes c.args.text.now) (string_bytes c.push_gradient.new.text)
    (string_bytes c.push_gradient-2.new.text) c.in_ok-push_gradient.ensures c.in_ok-push_gradient-2.ensures
