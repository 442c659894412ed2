use Rattle.std.proofs.Common.{◌≡◌, ◌∙◌, true, false, sym, arith}
use Rattle.qp_model.specs.problem.Parts.{design_of}
use Rattle.stay_check.specs.FirstRows.{is_on_state}
use Rattle.stay_check.proofs.RowFacts.{passes_more, passes_same}
use Rattle.stay_check.proofs.rows.limits_on_state.Goals as goal
use Rattle.stay_check.proofs.rows.limits_on_state.Goals.{then-is_on_state, else-is_on_state}

pub loop-i-preserved : goal.loop-i-preserved
loop-i-preserved c =
    let d = design_of c.args.parts.now in
    elim c.if-is_on_state.branch [
      | then-is_on_state w ↦ (
          let yes : is_on_state d c.loop-i.i ≡ true = sym c.is_on_state.ensures ∙ w.if-is_on_state.true in
          record { end = c.loop-i.invariant.end; count = omega (arith, passes_more (is_on_state d) c.loop-i.i yes, c.loop-i.invariant.count); few = omega (arith, c.loop-i.invariant.few) }
          )
      | else-is_on_state w ↦ (
          let no : is_on_state d c.loop-i.i ≡ false = sym c.is_on_state.ensures ∙ w.if-is_on_state.false in
          record { end = c.loop-i.invariant.end; count = omega (arith, passes_same (is_on_state d) c.loop-i.i no, c.loop-i.invariant.count); few = omega (arith, c.loop-i.invariant.few) }
          )
    ]
