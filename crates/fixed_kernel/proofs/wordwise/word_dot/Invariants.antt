use Rattle.std.proofs.Common.{◌≡◌, ◌+ℤ◌, take}
use Rattle.mat_int.specs.Row.{list_dot}
use Rattle.fixed_kernel.proofs.wordwise.word_dot.Given as goal

abbrev pub invariant-loop-i : goal.invariant-loop-i
invariant-loop-i l = l.sum ≡ l.start +ℤ list_dot (take l.i l.xs) (take l.i l.ys)
