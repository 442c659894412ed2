-- A box that a design can have in place of its own.
use Rattle.std.specs.Prelude.{ℕ, ◌<◌, ◌≤ℤ◌}
use Rattle.integer_algebra.specs.Sums.{at}
use Rattle.qp_model.specs.problem.Parts.{IsNumeratorList}
use Rattle.qp_model.specs.declared.design_parts.DesignParts.{DesignParts}
use Rattle.cell_split.specs.declared.state_box.StateBox.{StateBox}

pub record IsNewBox (p : DesignParts) (b : StateBox) : Type 0 where
  pub lo : IsNumeratorList b.lo.items p.states
  pub hi : IsNumeratorList b.hi.items p.states
  pub box : (i : ℕ) → i < p.states → at b.lo.items i ≤ℤ at b.hi.items i
