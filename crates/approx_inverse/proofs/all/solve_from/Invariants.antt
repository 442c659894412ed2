use Rattle.std.proofs.Common.{ℕ, ◌<◌}
use Rattle.condensed_form.specs.Form.{held}
use Rattle.approx_inverse.specs.Workspace.{IsWorkspace}
use Rattle.approx_inverse.specs.Inverse.{HasGainSizes, IsSolution, solution_of}
use Rattle.approx_inverse.proofs.all.solve_from.Given as goal

abbrev pub invariant-loop-i : goal.invariant-loop-i
invariant-loop-i l = record {
  work : IsWorkspace (held l.c).entries l.work;
  sizes : HasGainSizes l.found (held l.c).entries (held l.c).states (held l.c).rows;
  solved : (k : ℕ) → k < l.i → IsSolution (held l.c) l.f k (solution_of l.found k);
}
