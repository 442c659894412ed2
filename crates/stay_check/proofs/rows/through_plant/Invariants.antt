use Rattle.std.proofs.Common.{◌≡◌, ◌*◌, ◌^◌, ◌≤◌, ◌*ℤ◌, unsigned_abs}
use Rattle.integer_algebra.specs.Sums.{total}
use Rattle.qp_model.specs.problem.Parts.{design_of}
use Rattle.stay_check.specs.FirstRows.{next_limit}
use Rattle.stay_check.specs.Columns.{plant_at}
use Rattle.stay_check.proofs.rows.through_plant.Given as goal

abbrev pub invariant-loop-k : goal.invariant-loop-k
invariant-loop-k l = record {
  end : l.k-end ≡ l.parts.states;
  sum : l.sum ≡ total l.k (λ k. plant_at (design_of l.parts) k l.column *ℤ (next_limit (design_of l.parts) l.i).of_state k);
  small : unsigned_abs l.sum ≤ 2 ^ 62 * l.k;
}
