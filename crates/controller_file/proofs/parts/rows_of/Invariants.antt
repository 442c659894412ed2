use Rattle.std.proofs.Common.{◌≡◌, take, map}
use Rattle.text_lines.specs.Lines.{views}
use Rattle.controller_file.proofs.parts.rows_of.Given as goal

abbrev pub invariant-loop-line : goal.invariant-loop-line
invariant-loop-line l = l.matrix ≡ record { cols = l.fn.cols; rows = map (λ k. k.numbers) (take l.line-index (views l.lines)) }
