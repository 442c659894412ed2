use Rattle.std.proofs.Common.{◌≡◌, ◌+◌, ◌*◌, ◌^◌, ◌≤◌, pos, ◌-ℤ◌, ◌*ℤ◌, unsigned_abs}
use Rattle.std.specs.Int.{int_max}
use Rattle.integer_algebra.specs.Sums.{total, coimage, at}
use Rattle.integer_algebra.specs.Sizes.{amount}
use Rattle.mat_int.specs.Matrix.{entry_of}
use Rattle.qp_model.specs.problem.Parts.{design_of}
use Rattle.settle_check.specs.TurnSize.{input_size}
use Rattle.settle_check.proofs.rows.inputs_less.Given as goal

abbrev pub invariant-loop-l : goal.invariant-loop-l
invariant-loop-l m = record {
  end : m.l-end ≡ m.parts.inputs;
  value : m.sum.value ≡ total m.l (λ l. int_max (coimage m.parts.states (entry_of m.parts.b) (at m.row) l) (pos 0) -ℤ coimage m.parts.states (entry_of m.parts.b) (at m.row) l *ℤ at m.c.t.items l);
  size : m.sum.size ≡ amount m.l (λ l. input_size (design_of m.parts) (at m.row) l * (unsigned_abs (at m.c.t.items l) + 1));
  room : m.sum.size ≤ 2 ^ 126;
}
