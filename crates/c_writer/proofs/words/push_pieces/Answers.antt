use Rattle.std.proofs.Common.{string_bytes}
use Rattle.c_writer.proofs.Texts.{piece_more}
use Rattle.c_writer.proofs.words.push_pieces.Goals as goal

pub loop-piece-preserved : goal.loop-piece-preserved
loop-piece-preserved c =
    piece_more (λ x. x.now) c.args.pieces.now c.loop-piece.piece-index _ (string_bytes c.args.text.now) (string_bytes c.loop-piece.text) (string_bytes c.push_str.new.self) c.loop-piece-test.true
    c.loop-piece.invariant c.in_ok-push_str.ensures.bytes
