use Rattle.std.proofs.Common.{◌≡◌, ℤ, List, map, take, FitsSigned}
use Rattle.std.specs.Prelude.{All}
use Rattle.std.specs.Int.{w128}
use Rattle.std.specs.Fmt.{signed_decimal}
use Rattle.number_text.proofs.number.numbers_of.Given as goal

abbrev pub invariant-loop-word : goal.invariant-loop-word
invariant-loop-word l = record {
  found : map signed_decimal l.numbers.items ≡ map (λ x. x.now) (take l.word-index l.words);
  word : All (FitsSigned w128) l.numbers.items;
  only : (zs : List ℤ) → All (FitsSigned w128) zs → map (λ x. x.now) l.words ≡ map signed_decimal zs → l.numbers.items ≡ take l.word-index zs;
}
