use Rattle.std.proofs.Common.{pos, rules, arith, get_or, FitsSigned, sym, subst, ◌∙◌}
use Rattle.std.specs.Int.{w64}
use Rattle.std.proofs.lemmas.Int.{to_z-of_z}
use Rattle.std.proofs.lemmas.Grind.{common_steps}
use Rattle.fixed_kernel.specs.WordForm.{IsHalf}
use Rattle.fixed_kernel.proofs.WordSums.{word_term}
use Rattle.fixed_kernel.proofs.wordwise.half_dot.Goals as goal

pub halved-requires : goal.halved-requires
halved-requires c =
    let x : FitsSigned w64 (get_or c.args.xs.now c.loop-i.i (pos 0)) = search rules in
    subst IsHalf (sym (to_z-of_z w64 _ x)) (c.requires.left c.loop-i.i (pos 0) (omega arith))

pub halved-requires-in-loop-i : goal.halved-requires-in-loop-i
halved-requires-in-loop-i c =
    let y : FitsSigned w64 (get_or c.args.ys.now c.loop-i.i (pos 0)) = search rules in
    subst IsHalf (sym (to_z-of_z w64 _ y)) (c.requires.right c.loop-i.i (pos 0) (omega arith))

pub overflow_mul-sum : goal.overflow_mul-sum
overflow_mul-sum c =
    let x : FitsSigned w64 (get_or c.args.xs.now c.loop-i.i (pos 0)) = search rules in
    let y : FitsSigned w64 (get_or c.args.ys.now c.loop-i.i (pos 0)) = search rules in
    let left : FitsSigned w64 c.halved.result = record { sfits = c.halved.type_inv } in
    let right : FitsSigned w64 c.halved-in-loop-i.result = record { sfits = c.halved-in-loop-i.type_inv } in
    (word_term c.args.start _ c.args.xs.now c.args.ys.now c.loop-i.i _ _ _ (to_z-of_z w64 _ c.ranges.start) (to_z-of_z w64 _ left ∙ c.halved.ensures ∙ to_z-of_z w64 _ x)
    (to_z-of_z w64 _ right ∙ c.halved-in-loop-i.ensures ∙ to_z-of_z w64 _ y) c.loop-i.invariant (omega arith) (omega arith) c.requires.room).product

pub overflow_add-sum : goal.overflow_add-sum
overflow_add-sum c =
    let x : FitsSigned w64 (get_or c.args.xs.now c.loop-i.i (pos 0)) = search rules in
    let y : FitsSigned w64 (get_or c.args.ys.now c.loop-i.i (pos 0)) = search rules in
    let left : FitsSigned w64 c.halved.result = record { sfits = c.halved.type_inv } in
    let right : FitsSigned w64 c.halved-in-loop-i.result = record { sfits = c.halved-in-loop-i.type_inv } in
    (word_term c.args.start _ c.args.xs.now c.args.ys.now c.loop-i.i _ _ _ (to_z-of_z w64 _ c.ranges.start) (to_z-of_z w64 _ left ∙ c.halved.ensures ∙ to_z-of_z w64 _ x)
    (to_z-of_z w64 _ right ∙ c.halved-in-loop-i.ensures ∙ to_z-of_z w64 _ y) c.loop-i.invariant (omega arith) (omega arith) c.requires.room).whole

pub loop-i-preserved : goal.loop-i-preserved
loop-i-preserved c =
    let x : FitsSigned w64 (get_or c.args.xs.now c.loop-i.i (pos 0)) = search rules in
    let y : FitsSigned w64 (get_or c.args.ys.now c.loop-i.i (pos 0)) = search rules in
    let left : FitsSigned w64 c.halved.result = record { sfits = c.halved.type_inv } in
    let right : FitsSigned w64 c.halved-in-loop-i.result = record { sfits = c.halved-in-loop-i.type_inv } in
    (word_term c.args.start _ c.args.xs.now c.args.ys.now c.loop-i.i _ _ _ (to_z-of_z w64 _ c.ranges.start) (to_z-of_z w64 _ left ∙ c.halved.ensures ∙ to_z-of_z w64 _ x)
    (to_z-of_z w64 _ right ∙ c.halved-in-loop-i.ensures ∙ to_z-of_z w64 _ y) c.loop-i.invariant (omega arith) (omega arith) c.requires.room).next

pub returns : goal.returns
returns c = grind (arith, common_steps)
