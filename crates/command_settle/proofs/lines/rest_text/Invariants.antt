use Rattle.std.proofs.Common.{◌≡◌, ◌++◌, length, string_bytes}
use Rattle.settle_check.specs.Certificates.{state_box}
use Rattle.command_settle.specs.SettledText.{turn_line, coordinate_line, lines_to}
use Rattle.command_settle.proofs.lines.rest_text.Given as goal

abbrev pub invariant-loop-i : goal.invariant-loop-i
invariant-loop-i l = record {
  end : l.i-end ≡ length l.rest.low.items;
  text : string_bytes l.text ≡ turn_line l.turn ++ lines_to (coordinate_line (state_box l.rest)) l.i;
}
