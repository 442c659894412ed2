use Rattle.std.proofs.Common.{◌≡◌, ◌++◌, ◌^◌, get_or, decimal, string_bytes}
use Rattle.integer_algebra.specs.Division.{floor_of}
use Rattle.integer_algebra.specs.Sums.{at}
use Rattle.c_writer.specs.Terms.{products_text}
use Rattle.c_writer.proofs.sums.push_lowered_row.Given as goal

abbrev pub invariant-loop-j : goal.invariant-loop-j
invariant-loop-j l = string_bytes l.text ≡ string_bytes l.fn.text ++ products_text (λ j. floor_of (at l.row j) (2 ^ l.k)) (λ j. get_or l.tops j 0) (λ j. l.family ++ decimal j) l.j
