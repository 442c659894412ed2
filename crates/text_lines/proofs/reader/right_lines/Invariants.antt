use Rattle.std.proofs.Common.{◌≡◌, map, take}
use Rattle.text_lines.specs.Lines.{views, spelled}
use Rattle.text_lines.specs.Grammar.{IsBeginning}
use Rattle.text_lines.proofs.reader.right_lines.Given as goal

abbrev pub invariant-loop-piece : goal.invariant-loop-piece
invariant-loop-piece g l = record {
  beginning : IsBeginning g.G.Grammar.whole (views l.lines.items);
  spelling : map spelled (views l.lines.items) ≡ take l.piece-index (map (λ x. x.now) l.pieces);
}
