use Rattle.std.proofs.Common.{◌≡◌, ◌++◌, ◌^◌, pos, ◌*ℤ◌, get_or, decimal, string_bytes}
use Rattle.integer_algebra.specs.Sums.{at}
use Rattle.c_writer.specs.Terms.{products_text, part_in}
use Rattle.c_writer.proofs.sums.push_row.Given as goal

abbrev pub invariant-loop-k : goal.invariant-loop-k
invariant-loop-k l = string_bytes l.text ≡ string_bytes l.fn.text ++ products_text (λ k. part_in l.part (at l.row k *ℤ pos (2 ^ l.s))) (λ k. get_or l.tops k 0) (λ k. l.family ++ decimal k) l.k
