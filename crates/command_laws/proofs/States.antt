-- Grid states of a design's box lie in the box of its controller.
use Rattle.std.proofs.Common.{◌≡◌, ℕ, ◌<◌, ℤ, List, length, Option, sym, ◌∙◌, arith}
use Rattle.integer_algebra.specs.Sums.{at}
use Rattle.mat_int.specs.Matrix.{Matrix, row_of}
use Rattle.qp_model.specs.problem.Box.{IsGridState}
use Rattle.qp_model.specs.problem.Design.{Design}
use Rattle.qp_model.specs.machine.Controller.{Numbers}
use Rattle.qp_model.specs.machine.Machine.{IsAdmissible}
use Rattle.qp_model.specs.bounds.Built.{HasSizesOf}
use Rattle.command_laws.specs.Runs.{HoldsGridStates}

pub state_long : (d : Design) (content : Option (List ℕ)) (states : Matrix) → HoldsGridStates d content states → (e : ℕ) → e < length states.rows → length (row_of states e) ≡ d.states
state_long d content states holds e lt = let text = holds.states_right.right in (text.each e (omega (arith, lt, text.rows))).numbers

pub grid_state_held : (d : Design) (c : Numbers) → HasSizesOf d c → (xi : List ℤ) → length xi ≡ d.states → IsGridState d (at xi) → IsAdmissible c xi
grid_state_held d c sizes xi long inside = record {
  long = long ∙ sym sizes.states;
  each = λ i l. let m : i < d.states = omega (arith, l, sizes.states) in record { low = rw (sizes.low i m) (inside i m).0; high = rw (sizes.high i m) (inside i m).1 };
}
