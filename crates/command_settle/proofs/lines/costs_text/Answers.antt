use Rattle.std.proofs.Common.{◌≡◌, ◌∙◌, [], length, string_bytes, sym, rules, arith}
use Rattle.settle_check.specs.Certificates.{state_box}
use Rattle.command_settle.specs.SettledText.{cost_row_line}
use Rattle.command_settle.proofs.BoxLines.{none_yet, line_more}
use Rattle.command_settle.proofs.lines.costs_text.Goals as goal

pub loop-k-init : goal.loop-k-init
loop-k-init c =
    let end : c.len-k-end.result ≡ length c.args.costs.now.low.items = search rules in
    record { end = end; text = c.new-text.ensures.bytes ∙ sym (none_yet (cost_row_line c.args.turns (state_box c.args.costs.now))) }

pub loop-k-preserved : goal.loop-k-preserved
loop-k-preserved c =
    record {
      end = c.loop-k.invariant.end;
      text = line_more (cost_row_line c.args.turns (state_box c.args.costs.now)) c.loop-k.k [] (string_bytes c.loop-k.text) (string_bytes c.push_cost.new.text) c.loop-k.invariant.text c.in_ok-push_cost.ensures;
    }

pub returns : goal.returns
returns c =
    let e : c.loop-k.k ≡ length c.args.costs.now.low.items = omega (arith, c.loop-k.invariant.end, c.loop-k.auto.k-end, c.loop-k-test.false) in
    rw e at c.loop-k.invariant.text
