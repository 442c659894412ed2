use Rattle.std.proofs.Common.{◌≡◌, ◌<◌, ℕ, ℤ, pos, FitsSigned, length, List, rules, arith, ap, ◌∙◌, below_more}
use Rattle.std.specs.Int.{w128}
use Rattle.std.proofs.lemmas.Int.{to_z-of_z}
use Rattle.std.proofs.lemmas.List.{get_or-replicate}
use Rattle.integer_algebra.specs.Sums.{at}
use Rattle.qp_model.specs.form.Columns.{column_bound}
use Rattle.condensed_form.specs.Form.{held}
use Rattle.approx_inverse.specs.Inverse.{solution_of}
use Rattle.controller_maker.proofs.Bounds.{resized}
use Rattle.std.proofs.lemmas.Result.{IfOk-from_err}
use Rattle.controller_maker.proofs.widest.widest_gains.Goals as goal

pub put-requires-clause-sizes : goal.put-requires-clause-sizes
put-requires-clause-sizes c =
    let long : length c.deref.result.now ≡ (held c.args.c.now).entries = c.deref.ensures.len ∙ c.fill.ensures.len ∙ c.loop-i.invariant.long in
    let sizes = c.loop-i.invariant.sizes in
    resized c.loop-i.gains _ _ _ _ _ _ long sizes.p_mat.cols sizes.w_mat.cols sizes

pub put-requires-clause-column : goal.put-requires-clause-column
put-requires-clause-column c = omega (arith, c.loop-i.invariant.sizes.p_mat.cols, c.loop-i.invariant.sizes.w_mat.cols, c.loop-i-test.true)

pub loop-i-preserved : goal.loop-i-preserved
loop-i-preserved c =
    let inv = c.loop-i.invariant in
    let b : FitsSigned w128 c.entry_bound_of-bound.result = search rules in
    let all = rw (to_z-of_z w128 _ b) at (c.fill.ensures.items (λ y e. e)) in
    let long : length c.deref.result.now ≡ (held c.args.c.now).entries = c.deref.ensures.len ∙ c.fill.ensures.len ∙ inv.long in
    let same : (j : ℕ) → j < (held c.args.c.now).entries → at c.deref.result.now j ≡ c.entry_bound_of-bound.result = λ j l.
    ap (λ (xs : List ℤ). at xs j) (c.deref.ensures.value ∙ all) ∙ get_or-replicate c.loop-i.line.len j c.entry_bound_of-bound.result (pos 0) (omega (arith, inv.long)) in
    record {
      long = c.fill.ensures.len ∙ inv.long;
      sizes = rw (long, inv.sizes.p_mat.cols, inv.sizes.w_mat.cols) at c.put.ensures.sizes;
      each = λ i j l m. (below_more (λ i. (j : ℕ) → j < (held c.args.c.now).entries → solution_of c.put.new.self i j ≡ pos (column_bound (held c.args.c.now) c.args.f i)) c.loop-i.i
          (λ k o j m. c.put.ensures.others k j (omega arith) ∙ inv.each k j o m)
          (λ j m. c.put.ensures.put j (omega (arith, long)) ∙ same j m ∙ c.entry_bound_of-bound.ensures)) i l j m;
    }

pub returns-in_err-line : goal.returns-in_err-line
returns-in_err-line c = IfOk-from_err c.from_residual.result _ c.from_residual.ensures.0

pub returns-in_err-gains : goal.returns-in_err-gains
returns-in_err-gains c = IfOk-from_err c.from_residual-in_err-gains.result _ c.from_residual-in_err-gains.ensures.0

pub overflow_add-i-end : goal.overflow_add-i-end
overflow_add-i-end c = omega (arith, c.cols-states.ensures, c.requires.solvable.few_states)

pub overflow_add-i-end-2 : goal.overflow_add-i-end-2
overflow_add-i-end-2 c = omega (arith, c.cols-states.ensures, c.rows-rows.ensures.count, c.requires.solvable.few_states, c.requires.solvable.few_rows)

pub loop-i-init : goal.loop-i-init
loop-i-init c =
    record {
      long = c.in_ok-line.ensures.len ∙ c.rows-entries.ensures.count;
      sizes = rw (c.rows-entries.ensures.count, c.cols-states.ensures, c.rows-rows.ensures.count) at c.in_ok-gains.ensures;
      each = λ i j l m. absurd (omega arith);
    }

pub returns : goal.returns
returns c =
    record {
      sizes = c.loop-i.invariant.sizes;
      each = λ i j l m. c.loop-i.invariant.each i j (omega (arith, c.cols-states.ensures, c.rows-rows.ensures.count)) m;
    }
