use Rattle.std.proofs.Common.{◌++◌, ◌∙◌, List, map, ap, string_bytes}
use Rattle.number_text.specs.Lines.{text_of}
use Rattle.mac_listing.specs.declared.instruction.Op.{Op}
use Rattle.mac_listing.specs.Listing.{instructions}
use Rattle.mac_listing.specs.Text.{op_line}
use Rattle.mac_listing.proofs.Lines.{whole}
use Rattle.mac_listing.proofs.writer.parts_text.Goals as goal

pub returns-clause-text : goal.returns-clause-text
returns-clause-text c =
    let body = c.in_ok-push_body.ensures.text ∙ ap (λ (ops : List Op). string_bytes c.push_head.new.text ++ text_of (map op_line ops)) c.deref.ensures.value in
    whole (instructions c.args.l.now) (string_bytes c.new-text.result) (string_bytes c.push_head.new.text) (string_bytes c.push_body.new.text) (string_bytes c.push_line.new.text)
    c.new-text.ensures.bytes c.in_ok-push_head.ensures body c.in_ok-push_line.ensures.text
