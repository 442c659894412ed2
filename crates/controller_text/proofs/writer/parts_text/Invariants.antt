use Rattle.std.proofs.Common.{◌≡◌, take, map, string_bytes}
use Rattle.std.specs.Prelude.{All}
use Rattle.qp_model.specs.machine.Controller.{numbers}
use Rattle.number_text.specs.Lines.{text_of}
use Rattle.text_lines.specs.Lines.{spelled, Fits}
use Rattle.text_lines.specs.Blocks.{chained}
use Rattle.controller_text.specs.Lines.{line_blocks}
use Rattle.controller_text.proofs.writer.parts_text.Given as goal

abbrev pub invariant-loop-block : goal.invariant-loop-block
invariant-loop-block l = record {
  text : string_bytes l.text ≡ text_of (map spelled (chained (take l.block-index (line_blocks (numbers l.fn.parts)))));
  word : All Fits (chained (take l.block-index (line_blocks (numbers l.fn.parts))));
}
