use Rattle.std.proofs.Common.{rules, length, unsigned_abs, ◌∙◌}
use Rattle.std.specs.Int.{w128}
use mir.Val.{SFits}
use Rattle.integer_algebra.specs.Sums.{at}
use Rattle.integer_algebra.specs.Sizes.{amount}
use Rattle.qp_model.specs.problem.Parts.{design_of}
use Rattle.qp_model.specs.form.Form.{farthest}
use Rattle.qp_model.specs.form.FineSizes.{is_fine}
use Rattle.step_error.proofs.Ceilings.{quotient_is, positive_by}
use Rattle.step_error.proofs.SumFacts.{read_size}
use Rattle.step_error.proofs.DesignSums.{hessian_pair, linear_pair, plan_pair, constant_pair, square, linear_is, linear_small, constant_is, constant_small, rows_is, rows_small, diagonal_small, scale_one, rows_scale_one}
use Rattle.step_error.proofs.sums.sizes_of.Goals as goal

pub farthest_sum-requires-clause-pair : goal.farthest_sum-requires-clause-pair
farthest_sum-requires-clause-pair c = linear_pair (is_fine (design_of c.args.parts.now)) c.args.parts.now c.args.c.now c.requires

pub farthest_sum-requires-clause-small : goal.farthest_sum-requires-clause-small
farthest_sum-requires-clause-small c = linear_small (is_fine (design_of c.args.parts.now)) c.args.parts.now c.args.c.now c.requires

pub farthest_list-requires-clause-pair : goal.farthest_list-requires-clause-pair
farthest_list-requires-clause-pair c = rw (c.deref.ensures.value, c.deref-2.ensures.value) (constant_pair (is_fine (design_of c.args.parts.now)) c.args.parts.now c.args.c.now c.requires)

pub farthest_list-requires-clause-small : goal.farthest_list-requires-clause-small
farthest_list-requires-clause-small c = rw (c.deref.ensures.value, c.deref-2.ensures.value) (constant_small (is_fine (design_of c.args.parts.now)) c.args.parts.now c.args.c.now c.requires)

pub farthest_sum-requires-2-clause-pair : goal.farthest_sum-requires-2-clause-pair
farthest_sum-requires-2-clause-pair c = plan_pair (is_fine (design_of c.args.parts.now)) c.args.parts.now c.args.c.now c.requires

pub farthest_sum-requires-2-clause-small : goal.farthest_sum-requires-2-clause-small
farthest_sum-requires-2-clause-small c = rows_small (is_fine (design_of c.args.parts.now)) c.args.parts.now c.args.c.now c.requires

pub farthest_diagonal-requires-clause-pair : goal.farthest_diagonal-requires-clause-pair
farthest_diagonal-requires-clause-pair c = hessian_pair (is_fine (design_of c.args.parts.now)) c.args.parts.now c.args.c.now c.requires

pub farthest_diagonal-requires-clause-square : goal.farthest_diagonal-requires-clause-square
farthest_diagonal-requires-clause-square c = square (is_fine (design_of c.args.parts.now)) c.args.parts.now c.args.c.now c.requires

pub farthest_diagonal-requires-clause-small : goal.farthest_diagonal-requires-clause-small
farthest_diagonal-requires-clause-small c = diagonal_small (is_fine (design_of c.args.parts.now)) c.args.parts.now c.args.c.now c.requires

pub div_ceil-requires : goal.div_ceil-requires
div_ceil-requires c =
    let f : SFits w128 c.args.c.now.hess_den = search rules in
    let scale = read_size _ _ f c.unsigned_abs-hess_den.ensures.value in
    positive_by scale (scale_one (is_fine (design_of c.args.parts.now)) c.args.parts.now c.args.c.now c.requires)

pub div_ceil-requires-2 : goal.div_ceil-requires-2
div_ceil-requires-2 c =
    let f : SFits w128 c.args.c.now.hess_den = search rules in
    let scale = read_size _ _ f c.unsigned_abs-hess_den.ensures.value in
    positive_by scale (scale_one (is_fine (design_of c.args.parts.now)) c.args.parts.now c.args.c.now c.requires)

pub div_ceil-requires-3 : goal.div_ceil-requires-3
div_ceil-requires-3 c =
    let f : SFits w128 c.args.c.now.row_den = search rules in
    let scale = read_size _ _ f c.unsigned_abs.ensures.value in
    positive_by scale (rows_scale_one (is_fine (design_of c.args.parts.now)) c.args.parts.now c.args.c.now c.requires)

pub div_ceil-requires-4 : goal.div_ceil-requires-4
div_ceil-requires-4 c =
    let f : SFits w128 c.args.c.now.hess_den = search rules in
    let scale = read_size _ _ f c.unsigned_abs-hess_den.ensures.value in
    positive_by scale (scale_one (is_fine (design_of c.args.parts.now)) c.args.parts.now c.args.c.now c.requires)

pub returns-clause-linear : goal.returns-clause-linear
returns-clause-linear c =
    let f : SFits w128 c.args.c.now.hess_den = search rules in
    let scale = read_size _ _ f c.unsigned_abs-hess_den.ensures.value in
    quotient_is _ _ _ _ _ (scale_one (is_fine (design_of c.args.parts.now)) c.args.parts.now c.args.c.now c.requires) c.div_ceil.ensures
    (c.farthest_sum.ensures ∙ linear_is (is_fine (design_of c.args.parts.now)) c.args.parts.now c.args.c.now c.requires) scale

pub returns-clause-constant : goal.returns-clause-constant
returns-clause-constant c =
    let f : SFits w128 c.args.c.now.hess_den = search rules in
    let scale = read_size _ _ f c.unsigned_abs-hess_den.ensures.value in
    let sum = c.farthest_list.ensures ∙ (λ i. amount (length (c.deref.ensures.value i)) (λ j. farthest (at (c.deref.ensures.value i) j) (unsigned_abs (at (c.deref-2.ensures.value i) j)))) in
    quotient_is _ _ _ _ _ (scale_one (is_fine (design_of c.args.parts.now)) c.args.parts.now c.args.c.now c.requires) c.div_ceil-2.ensures (sum ∙ constant_is (is_fine (design_of c.args.parts.now)) c.args.parts.now c.args.c.now c.requires) scale

pub returns-clause-rows : goal.returns-clause-rows
returns-clause-rows c =
    let f : SFits w128 c.args.c.now.row_den = search rules in
    let scale = read_size _ _ f c.unsigned_abs.ensures.value in
    quotient_is _ _ _ _ _ (rows_scale_one (is_fine (design_of c.args.parts.now)) c.args.parts.now c.args.c.now c.requires) c.div_ceil-3.ensures
    (c.farthest_sum-2.ensures ∙ rows_is (is_fine (design_of c.args.parts.now)) c.args.parts.now c.args.c.now c.requires) scale

pub returns-clause-trace : goal.returns-clause-trace
returns-clause-trace c =
    let f : SFits w128 c.args.c.now.hess_den = search rules in
    let scale = read_size _ _ f c.unsigned_abs-hess_den.ensures.value in
    quotient_is _ _ _ _ _ (scale_one (is_fine (design_of c.args.parts.now)) c.args.parts.now c.args.c.now c.requires) c.div_ceil-4.ensures c.farthest_diagonal.ensures scale

pub state_bound-requires : goal.state_bound-requires
state_bound-requires c = c.requires.design

pub returns-clause-state : goal.returns-clause-state
returns-clause-state c = c.state_bound.ensures.value

pub returns-clause-near : goal.returns-clause-near
returns-clause-near c = c.state_bound.ensures.near
