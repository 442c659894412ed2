use Rattle.qp_model.specs.problem.Parts.{design_of}
use Rattle.qp_model.specs.declared.design_parts.DesignParts.{DesignParts}
use Rattle.condensed_form.specs.Form.{held, IsFormOf}
use Rattle.plan_excess.specs.Rows.{AreGradientRows, AreRowsNear}
use Rattle.plan_excess.proofs.rows.rows_of.Given as goal

abbrev pub invariant-loop-j : goal.invariant-loop-j
invariant-loop-j l = record {
  made : (p : DesignParts) → IsFormOf p l.c → AreGradientRows (design_of p) (held l.c) l.j l.rows.items;
  near : (p : DesignParts) → IsFormOf p l.c → AreRowsNear (design_of p) (held l.c) l.j;
}
