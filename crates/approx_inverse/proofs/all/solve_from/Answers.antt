use Rattle.std.proofs.Common.{◌≡◌, ℕ, ◌<◌, length, arith, ap, sym, below_more, ◌∙◌, refl, rules}
use Rattle.integer_algebra.specs.Sums.{at}
use Rattle.condensed_form.specs.Form.{held}
use Rattle.approx_inverse.specs.Spans.{cells}
use Rattle.approx_inverse.proofs.WordLaws.{at-slice}
use Rattle.approx_inverse.proofs.FormLaws.{sizes_own, solution_kept}
use Rattle.std.proofs.lemmas.Result.{IfOk-from_err}
use Rattle.approx_inverse.proofs.all.solve_from.Goals as goal

pub loop-i-preserved : goal.loop-i-preserved
loop-i-preserved c =
    let inv = c.loop-i.invariant in
    let work = c.solve.ensures.work in
    let long : length c.cells.result.now ≡ (held c.args.c.now).entries = c.cells.ensures.len ∙ work.len in
    let s = c.solve.new.self.solution.start in
    let same : (j : ℕ) → j < (held c.args.c.now).entries → at c.cells.result.now j ≡ cells c.solve.new.self.region.words s j = λ j l.
    ap (λ ws. at ws j) c.cells.ensures.value ∙ at-slice c.solve.new.self.region.words s c.solve.new.self.solution.len j (omega (arith, work.len)) in
    record {
      work = work;
      sizes = rw (long, inv.sizes.p_mat.cols, inv.sizes.w_mat.cols) at c.put.ensures.sizes;
      solved = below_more _ _
          (λ k l. solution_kept (held c.args.c.now) c.args.f k _ _ (λ j m. sym (c.put.ensures.others k j (omega arith))) (inv.solved k l))
          (solution_kept (held c.args.c.now) c.args.f c.loop-i.i _ _ (λ j m. sym (c.put.ensures.put j (omega (arith, long)) ∙ same j m)) (c.solve.ensures.solved c.if-not-solve.false));
    }

pub returns-clause-solved : goal.returns-clause-solved
returns-clause-solved c = record {
  sizes = c.loop-i.invariant.sizes;
  solved = λ i l. c.loop-i.invariant.solved i (omega arith);
}

pub solve-requires-clause-solvable : goal.solve-requires-clause-solvable
solve-requires-clause-solvable c = c.requires.solvable

pub solve-requires-clause-matrix : goal.solve-requires-clause-matrix
solve-requires-clause-matrix c = c.requires.matrix

pub solve-requires-clause-root : goal.solve-requires-clause-root
solve-requires-clause-root c = c.requires.root

pub solve-requires-clause-work : goal.solve-requires-clause-work
solve-requires-clause-work c = c.loop-i.invariant.work

pub solve-requires-clause-bits : goal.solve-requires-clause-bits
solve-requires-clause-bits c = c.requires.bits

pub returns-then-not-solve-clause-wide : goal.returns-then-not-solve-clause-wide
returns-then-not-solve-clause-wide c = (refl, c.solve.ensures.wide (search rules))

pub cells-requires : goal.cells-requires
cells-requires c = c.solve.ensures.work.live

pub loop-i-init : goal.loop-i-init
loop-i-init c = record {
  work = c.requires.work;
  sizes = rw (c.rows-entries.ensures.count, c.cols-states.ensures, c.rows-rows.ensures.count) at c.in_ok-found.ensures;
  solved = λ k l. absurd (omega arith);
}

pub solve-requires-clause-column : goal.solve-requires-clause-column
solve-requires-clause-column c = rw (c.cols-states.ensures, c.rows-rows.ensures.count) at c.loop-i-test.true

pub put-requires-clause-column : goal.put-requires-clause-column
put-requires-clause-column c =
    let sizes = c.loop-i.invariant.sizes in
    rw (sizes.p_mat.cols, sizes.w_mat.cols) (rw (c.cols-states.ensures, c.rows-rows.ensures.count) at c.loop-i-test.true)

pub put-requires-clause-sizes : goal.put-requires-clause-sizes
put-requires-clause-sizes c =
    let long : length c.cells.result.now ≡ (held c.args.c.now).entries = c.cells.ensures.len ∙ c.solve.ensures.work.len in
    sizes_own c.loop-i.found _ _ _ long c.loop-i.invariant.sizes

pub returns-in_err-found-clause-solved : goal.returns-in_err-found-clause-solved
returns-in_err-found-clause-solved c = IfOk-from_err c.from_residual.result _ c.from_residual.ensures.0

pub returns-then-not-solve-clause-solved : goal.returns-then-not-solve-clause-solved
returns-then-not-solve-clause-solved c = tt

pub returns-clause-wide : goal.returns-clause-wide
returns-clause-wide c = tt

pub overflow_add-i-end : goal.overflow_add-i-end
overflow_add-i-end c = omega (arith, c.cols-states.ensures, c.requires.solvable.few_states)

pub overflow_add-i-end-2 : goal.overflow_add-i-end-2
overflow_add-i-end-2 c = omega (arith, c.cols-states.ensures, c.rows-rows.ensures.count, c.requires.solvable.few_states, c.requires.solvable.few_rows)
