use Rattle.std.proofs.Common.{◌+◌, length, rules, FitsSigned, unsigned_abs, ap, ap₂, arith, ◌∙◌}
use Rattle.std.specs.Int.{w128}
use Rattle.std.proofs.lemmas.Int.{to_z-of_z}
use Rattle.integer_algebra.specs.Sums.{at}
use Rattle.qp_model.specs.form.Form.{farthest}
use Rattle.condensed_form.proofs.LimitFacts.{IsNextSquare, next_square}
use Rattle.condensed_form.proofs.limit.squares_of_row.Goals as goal

module _ (c : goal.After-unsigned_abs-in-loop-j) where
  step : IsNextSquare (λ j. farthest (at c.args.mids.now j) (unsigned_abs (at c.args.rads.now j))) c.loop-j.j
      (c.unsigned_abs.result + c.unsigned_abs-in-loop-j.result) c.loop-j.sum
  step =
      let mid : FitsSigned w128 (at c.args.mids.now c.loop-j.j) = search rules in
      let rad : FitsSigned w128 (at c.args.rads.now c.loop-j.j) = search rules in
      next_square (length c.args.mids.now) _ c.loop-j.j _ c.loop-j.sum (omega arith)
      (ap₂ ◌+◌ (c.unsigned_abs.ensures.value ∙ ap unsigned_abs (to_z-of_z w128 _ mid)) (c.unsigned_abs-in-loop-j.ensures.value ∙ ap unsigned_abs (to_z-of_z w128 _ rad)))
      c.loop-j.invariant c.requires.room

pub overflow_add-far : goal.overflow_add-far
overflow_add-far c = (step c).far

pub overflow_mul-sum : goal.overflow_mul-sum
overflow_mul-sum c = (step c).square

pub overflow_add-sum : goal.overflow_add-sum
overflow_add-sum c = (step c).fits

pub loop-j-preserved : goal.loop-j-preserved
loop-j-preserved c = (step c).is
