use Rattle.std.proofs.Common.{◌≡◌, ◌++◌, take, map, string_bytes}
use Rattle.c_writer.specs.Terms.{joined}
use Rattle.c_writer.proofs.words.push_pieces.Given as goal

abbrev pub invariant-loop-piece : goal.invariant-loop-piece
invariant-loop-piece l = string_bytes l.text ≡ string_bytes l.fn.text ++ joined (map (λ x. x.now) (take l.piece-index l.pieces))
