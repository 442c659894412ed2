use Rattle.std.proofs.Common.{◌≡◌, ◌++◌, take, string_bytes}
use Rattle.number_text.specs.Lines.{text_of}
use Rattle.mac_listing.specs.Listing.{instructions}
use Rattle.mac_listing.specs.Text.{head_lines}
use Rattle.mac_listing.proofs.writer.push_head.Given as goal

abbrev pub invariant-loop-i : goal.invariant-loop-i
invariant-loop-i l = string_bytes l.text ≡ string_bytes l.fn.text ++ text_of (take l.i (head_lines (instructions l.l)))
