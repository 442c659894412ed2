use Rattle.std.proofs.Common.{◌≡◌, ℕ, ◌<◌, get_or, pos}
use Rattle.qp_model.specs.machine.Controller.{numbers}
use Rattle.fixed_kernel.specs.WordForm.{entry_base}
use Rattle.fixed_kernel.proofs.word_bases.put_entry_bases.Given as goal

abbrev pub invariant-loop-j : goal.invariant-loop-j
invariant-loop-j l = (k : ℕ) → k < l.j → get_or l.out k (pos 0) ≡ entry_base (numbers l.c) l.state k
