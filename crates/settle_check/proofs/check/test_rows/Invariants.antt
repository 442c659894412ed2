use Rattle.std.proofs.Common.{◌≡◌, ℕ, ◌<◌}
use Rattle.qp_model.specs.machine.Controller.{numbers}
use Rattle.settle_check.specs.Still.{box_of}
use Rattle.settle_check.specs.Answers.{RowIsStill}
use Rattle.settle_check.proofs.check.test_rows.Given as goal

abbrev pub invariant-loop-i : goal.invariant-loop-i
invariant-loop-i l = record {
  end : l.i-end ≡ l.c.m;
  still : (k : ℕ) → k < l.i → RowIsStill (numbers l.c) (box_of l.low l.high) k;
}
