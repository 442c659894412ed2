use Rattle.std.proofs.Common.{◌≡◌, length, string_bytes}
use Rattle.settle_check.specs.Certificates.{state_box}
use Rattle.command_settle.specs.SettledText.{cost_row_line, lines_to}
use Rattle.command_settle.proofs.lines.costs_text.Given as goal

abbrev pub invariant-loop-k : goal.invariant-loop-k
invariant-loop-k l = record {
  end : l.k-end ≡ length l.costs.low.items;
  text : string_bytes l.text ≡ lines_to (cost_row_line l.turns (state_box l.costs)) l.k;
}
