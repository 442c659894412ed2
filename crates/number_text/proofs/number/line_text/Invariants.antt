use Rattle.std.proofs.Common.{◌≡◌, take, string_bytes, FitsSigned, All}
use Rattle.std.specs.Int.{w128}
use Rattle.number_text.specs.Lines.{line_of}
use Rattle.number_text.proofs.number.line_text.Given as goal

abbrev pub invariant-loop-number : goal.invariant-loop-number
invariant-loop-number l = record {
  value : string_bytes l.text ≡ line_of l.key (take l.number-index l.numbers);
  word : All (FitsSigned w128) (take l.number-index l.numbers);
}
