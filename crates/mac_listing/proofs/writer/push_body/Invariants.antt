use Rattle.std.proofs.Common.{◌≡◌, ◌++◌, take, map, string_bytes}
use Rattle.std.specs.Prelude.{All}
use Rattle.number_text.specs.Lines.{text_of}
use Rattle.mac_listing.specs.Text.{op_line, OpFitsWord}
use Rattle.mac_listing.proofs.writer.push_body.Given as goal

abbrev pub invariant-loop-op : goal.invariant-loop-op
invariant-loop-op l = record {
  text : string_bytes l.text ≡ string_bytes l.fn.text ++ text_of (map op_line (take l.op-index l.body));
  word : All OpFitsWord (take l.op-index l.body);
}
