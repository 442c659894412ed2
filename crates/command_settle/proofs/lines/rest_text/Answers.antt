use Rattle.std.proofs.Common.{◌≡◌, ◌++◌, ◌∙◌, List, ℕ, length, string_bytes, ap, rules, arith}
use Rattle.settle_check.specs.Certificates.{state_box}
use Rattle.command_settle.specs.SettledText.{turn_line, coordinate_line}
use Rattle.command_settle.proofs.BoxLines.{no_line, line_more}
use Rattle.command_settle.proofs.lines.rest_text.Goals as goal

pub loop-i-init : goal.loop-i-init
loop-i-init c =
    let front = turn_line c.args.turn in
    let end : c.len-i-end.result ≡ length c.args.rest.now.low.items = search rules in
    record {
      end = end;
      text = no_line (coordinate_line (state_box c.args.rest.now)) front (string_bytes c.push_turn.new.text) (c.in_ok-push_turn.ensures ∙ ap (λ (t : List ℕ). t ++ front) c.new-text.ensures.bytes);
    }

pub loop-i-preserved : goal.loop-i-preserved
loop-i-preserved c =
    let front = turn_line c.args.turn in
    record {
      end = c.loop-i.invariant.end;
      text =
          line_more (coordinate_line (state_box c.args.rest.now)) c.loop-i.i front (string_bytes c.loop-i.text) (string_bytes c.push_coordinate.new.text) c.loop-i.invariant.text c.in_ok-push_coordinate.ensures;
    }

pub returns : goal.returns
returns c =
    let e : c.loop-i.i ≡ length c.args.rest.now.low.items = omega (arith, c.loop-i.invariant.end, c.loop-i.auto.i-end, c.loop-i-test.false) in
    rw e at c.loop-i.invariant.text
