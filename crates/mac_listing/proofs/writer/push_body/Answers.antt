use Rattle.std.proofs.Common.{string_bytes}
use Rattle.std.proofs.lemmas.List.Elements.{All-nil, All-more}
use Rattle.mac_listing.specs.Text.{OpFitsWord}
use Rattle.mac_listing.proofs.Lines.{op_more, lines_none}
use Rattle.mac_listing.proofs.writer.push_body.Goals as goal

pub loop-op-init : goal.loop-op-init
loop-op-init c = record { text = lines_none (string_bytes c.args.text.now); word = All-nil OpFitsWord }

pub loop-op-preserved : goal.loop-op-preserved
loop-op-preserved c =
    let body = c.args.body.now in
    let i = c.loop-op.op-index in
    record {
      text = op_more body i _ (string_bytes c.args.text.now) (string_bytes c.loop-op.text) (string_bytes c.push_op.new.text) c.loop-op-test.true c.loop-op.invariant.text c.in_ok-push_op.ensures.text;
      word = All-more OpFitsWord body i _ c.loop-op-test.true c.loop-op.invariant.word c.in_ok-push_op.ensures.word;
    }
