use Rattle.std.proofs.Common.{◌≡◌, ℕ, ◌<◌, get_or, pos}
use Rattle.qp_model.specs.machine.Controller.{numbers}
use Rattle.fixed_kernel.specs.WordForm.{row_base}
use Rattle.fixed_kernel.proofs.word_bases.put_row_bases.Given as goal

abbrev pub invariant-loop-i : goal.invariant-loop-i
invariant-loop-i l = (k : ℕ) → k < l.i → get_or l.out k (pos 0) ≡ row_base (numbers l.c) l.state k
