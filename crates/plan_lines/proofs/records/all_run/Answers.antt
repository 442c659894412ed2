use Rattle.std.proofs.Common.{◌≡◌, ◌∙◌, below_more, subst, arith, ℤ, ℕ, List}
use Rattle.mat_int.specs.Matrix.{row_of}
use Rattle.plan_lines.proofs.records.all_run.Goals as goal

pub loop-i-preserved : goal.loop-i-preserved
loop-i-preserved g c =
    let p = g.M.PreparedMachine.makes (g.M.PreparedMachine.subject c.args.machine.now) in
    let m = c.args.states.now in
    let i = c.loop-i.i in
    let there : c.row.result.now ≡ row_of m i = c.row.ensures.value ∙ rw (c.loop-i.invariant.rows, c.loop-i.invariant.next) at c.step.ensures.row in
    record {
      run = below_more (λ (e : ℕ). p.holds (row_of m e)) i c.loop-i.invariant.run (subst (λ (xi : List ℤ). p.holds xi) there c.in_default.ensures);
      rows = c.step.ensures.rows ∙ c.loop-i.invariant.rows;
      next = omega (arith, c.step.ensures.next, c.loop-i.invariant.next);
    }
